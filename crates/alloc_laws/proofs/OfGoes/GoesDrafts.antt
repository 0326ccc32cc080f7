-- Staged blocks as the step writes them, and what follows them.
use Rattle.std.proofs.Common.{◌≡◌, ◌==◌, ◌||◌, ◌&&◌, ℕ, Bool, false, cond, List, [], ◌∷◌}
use Rattle.std.proofs.Common.{refl, sym, ap, ap₂, ◌∙◌, subst}
use Rattle.exo_tree.specs.Tree.{Binder, Control}
use Rattle.exo_tree.specs.Tree.{Datum, Const, Read, Negated, Relu, Plus, Minus, Times}
use Rattle.exo_tree.specs.Tree.{Select, Coord, Argument, ControlArg, ConditionArg, Whole}
use Rattle.exo_tree.specs.Tree.{Window, Statement, Assign, Reduce, Config, Pass, If, For, Alloc, View}
use Rattle.exo_tree.specs.Tree.{Call, Block, end, next, joined}
use Rattle.exo_meaning.specs.Run.{unit_world, kinds_of}
use Rattle.exo_meaning.specs.Unseen.{in_control, in_controls, in_condition, in_datum, in_coords}
use Rattle.exo_meaning.specs.Unseen.{in_argument, in_arguments, in_statement, in_block as mentions}
use Rattle.exo_meaning.specs.Run.{run}
use Rattle.exo_meaning.proofs.Compose.{compose, then_cong}
use Rattle.buffer_laws.proofs.Simplified.{simplified_law}
use Rattle.exo_meaning.proofs.Frame.{or_parts}
use Rattle.meaning_laws.specs.Context.{MayReplace}
use Rattle.place_laws.specs.Scope.Scopes.{top_binders}
use Rattle.buffer_laws.specs.Staging.Converted.{converted, converted_statement, converted_datum}
use Rattle.buffer_laws.specs.Staging.Converted.{converted_argument, converted_arguments, indices_on}
use Rattle.buffer_laws.specs.Staging.Converted.{coords_on}
use Rattle.buffer_laws.specs.Simplified.{simplified, simplified_statement, simplified_datum}
use Rattle.buffer_laws.specs.Simplified.{simplified_argument, simplified_arguments, all_simpler}
use Rattle.buffer_laws.specs.Simplified.{coords_simpler}
use Rattle.buffer_laws.specs.StageMem.{sizes, loads, stores, roots_behind, staged_block}
use Rattle.buffer_laws.specs.StageLaws.{staging_of, as_made, with_simpler, reader_as_made}
use Rattle.buffer_laws.specs.StageLaws.{reader_with_simpler}
use Rattle.buffer_laws.specs.StageAccum.{sums_of, sums_as_made, sums_with_simpler}
use Rattle.buffer_laws.specs.Sums.{zero_nest}
use Rattle.buffer_laws.proofs.StageLaws.{draft_law, reader_draft_law, same_may}
use Rattle.buffer_laws.proofs.StageSums.{sums_draft_law}
use Rattle.buffer_laws.specs.Stride.Strides.{stride_seen}
use Rattle.buffer_laws.proofs.OfStride.Units.{blind_calls_law}
use Rattle.alloc_laws.specs.Goes.Goes.{goes}
use Rattle.alloc_laws.specs.Goes.GoesDrafts.{StagedDraftGoes, ReaderDraftGoes, SumsDraftGo}
use Rattle.alloc_laws.specs.Goes.GoesDrafts.{UntouchedDraftGoes, UnseenDraftGoes, GoesUnused}
use Rattle.alloc_laws.proofs.OfGoes.StagedGoes.{staged_goes, reader_goes}
use Rattle.alloc_laws.proofs.OfGoes.SumsGo.{sums_go, unseen_goes}
use Rattle.alloc_laws.proofs.OfGoes.Either.{block_of_none}
use Rattle.alloc_laws.proofs.OfGoes.Untouched.{untouched_goes}

pub staged_draft_goes : StagedDraftGoes
staged_draft_goes kinds ps root simple cell sides memory base x coords name b s is made it =
    let world = unit_world kinds ps in
    let w = staging_of x coords name in
    let a : Binder = record { id = base; name = name } in
    same_may world (goes root base x b) b (as_made simple cell memory base x coords name b)
    (with_simpler simple cell memory base x coords name b) s
    (draft_law world simple cell memory base x coords name b s is)
    (staged_goes world (stride_seen kinds ps) root a cell (sizes simple w cell memory base) sides
    memory x coords (loads simple w cell memory base) (stores simple w cell memory base) b s
    (blind_calls_law kinds ps) made it)

pub reader_draft_goes : ReaderDraftGoes
reader_draft_goes kinds ps root simple cell sides memory base x coords name b s is silent made it =
    let world = unit_world kinds ps in
    let w = staging_of x coords name in
    let a : Binder = record { id = base; name = name } in
    same_may world (goes root base x b) b (reader_as_made simple cell memory base x coords name b)
    (reader_with_simpler simple cell memory base x coords name b) s
    (reader_draft_law world simple cell memory base x coords name b s is)
    (reader_goes world (stride_seen kinds ps) root a cell (sizes simple w cell memory base) sides
    memory x coords (loads simple w cell memory base) b s (blind_calls_law kinds ps) made silent it)

pub sums_draft_go : SumsDraftGo
sums_draft_go fields memories ps scope root simple cell sides memory base x coords name b s is made
    it adds =
    let kinds = kinds_of fields in
    let world = unit_world kinds ps in
    let w = sums_of x coords name in
    let a : Binder = record { id = base; name = name } in
    same_may world (goes root base x b) b (sums_as_made simple cell memory base x coords name b)
    (sums_with_simpler simple cell memory base x coords name b) s
    (sums_draft_law world simple cell memory base x coords name b s is)
    (sums_go fields memories ps scope (stride_seen kinds ps) root a cell
    (sizes simple w cell memory base) sides memory x coords (loads simple w cell memory base)
    (stores simple w cell memory base) b s (blind_calls_law kinds ps) made it adds)

-- ---- a block without x stays as it is

module _ (a x : ℕ) (coords : List Coord) where
  abbrev is_x : ℕ → Bool
  is_x y = y == x

  name_stays : (y : ℕ) → is_x y ≡ false → cond (y == x) a y ≡ y
  name_stays y h = ap (λ t. cond t a y) h

  indices_stay : (y : ℕ) (is : List Control) → is_x y ≡ false
      → cond (y == x) (indices_on coords is) is ≡ is
  indices_stay y is h = ap (λ t. cond t (indices_on coords is) is) h

  coords_stay : (y : ℕ) (ds : List Coord) → is_x y ≡ false
      → cond (y == x) (coords_on coords ds) ds ≡ ds
  coords_stay y ds h = ap (λ t. cond t (coords_on coords ds) ds) h

  datum_stays : (d : Datum) → in_datum is_x d ≡ false → converted_datum a x coords d ≡ d
  datum_stays (Const n) h = refl
  datum_stays (Read y is) h =
      let p = or_parts (is_x y) (in_controls is_x is) h in
      ap₂ Read (name_stays y p.0) (indices_stay y is p.0)
  datum_stays (Negated d) h = ap Negated (datum_stays d h)
  datum_stays (Relu d) h = ap Relu (datum_stays d h)
  datum_stays (Plus d e) h = let p = or_parts (in_datum is_x d) (in_datum is_x e) h in
      ap₂ Plus (datum_stays d p.0) (datum_stays e p.1)
  datum_stays (Minus d e) h = let p = or_parts (in_datum is_x d) (in_datum is_x e) h in
      ap₂ Minus (datum_stays d p.0) (datum_stays e p.1)
  datum_stays (Times d e) h = let p = or_parts (in_datum is_x d) (in_datum is_x e) h in
      ap₂ Times (datum_stays d p.0) (datum_stays e p.1)
  datum_stays (Select d e f g) h =
      let p = or_parts (in_datum is_x d) (in_datum is_x e || (in_datum is_x f || in_datum is_x g)) h
      in
      let q = or_parts (in_datum is_x e) (in_datum is_x f || in_datum is_x g) p.1 in
      let r = or_parts (in_datum is_x f) (in_datum is_x g) q.1 in
      ap₂ (λ i j. Select i j (converted_datum a x coords f) (converted_datum a x coords g))
      (datum_stays d p.0) (datum_stays e q.0)
      ∙ ap₂ (Select d e) (datum_stays f r.0) (datum_stays g r.1)

  argument_stays : (g : Argument) → in_argument is_x g ≡ false
      → converted_argument a x coords g ≡ g
  argument_stays (ControlArg e) h = refl
  argument_stays (ConditionArg c) h = refl
  argument_stays (Whole y) h = ap Whole (name_stays y h)
  argument_stays (Window y ds) h =
      let p = or_parts (is_x y) (in_coords is_x ds) h in
      ap₂ Window (name_stays y p.0) (coords_stay y ds p.0)

  arguments_stay : (gs : List Argument) → in_arguments is_x gs ≡ false
      → converted_arguments a x coords gs ≡ gs
  arguments_stay [] h = refl
  arguments_stay (g ∷ gs) h =
      let p = or_parts (in_argument is_x g) (in_arguments is_x gs) h in
      ap₂ ◌∷◌ (argument_stays g p.0) (arguments_stay gs p.1)

  stored_stays : (f : ℕ → List Control → Datum → Statement) (y : ℕ) (is : List Control) (d : Datum)
      → (is_x y || (in_controls is_x is || in_datum is_x d)) ≡ false
      → f (cond (y == x) a y) (cond (y == x) (indices_on coords is) is)
      (converted_datum a x coords d) ≡ f y is d
  stored_stays f y is d h =
      let p = or_parts (is_x y) (in_controls is_x is || in_datum is_x d) h in
      ap₂ (λ i j. f i j (converted_datum a x coords d)) (name_stays y p.0) (indices_stay y is p.0)
      ∙ ap (f y is) (datum_stays d (or_parts (in_controls is_x is) (in_datum is_x d) p.1).1)

  mutual
    pub block_stays : (b : Block) → mentions is_x b ≡ false → converted a x coords b ≡ b
    block_stays end h = refl
    block_stays (next d b) h =
        let p = or_parts (in_statement is_x d) (mentions is_x b) h in
        ap₂ next (statement_stays d p.0) (block_stays b p.1)

    statement_stays : (d : Statement) → in_statement is_x d ≡ false
        → converted_statement a x coords d ≡ d
    statement_stays (Assign y is d) h = stored_stays Assign y is d h
    statement_stays (Reduce y is d) h = stored_stays Reduce y is d h
    statement_stays (Config f g) h = ap (Config f) (argument_stays g h)
    statement_stays Pass h = refl
    statement_stays (If c b d) h =
        let p = or_parts (in_condition is_x c) (mentions is_x b || mentions is_x d) h in
        let q = or_parts (mentions is_x b) (mentions is_x d) p.1 in
        ap₂ (If c) (block_stays b q.0) (block_stays d q.1)
    statement_stays (For i lo hi b) h =
        let p = or_parts (is_x i.id) (in_control is_x lo || (in_control is_x hi || mentions is_x b))
        h in
        let q = or_parts (in_control is_x lo) (in_control is_x hi || mentions is_x b) p.1 in
        ap (For i lo hi) (block_stays b (or_parts (in_control is_x hi) (mentions is_x b) q.1).1)
    statement_stays (Alloc y cell dims memory) h = refl
    statement_stays (View w y ds) h =
        let p = or_parts (is_x w.id) (is_x y || in_coords is_x ds) h in
        let q = or_parts (is_x y) (in_coords is_x ds) p.1 in
        ap₂ (View w) (name_stays y q.0) (coords_stay y ds q.0)
    statement_stays (Call k gs) h = ap (Call k) (arguments_stay gs h)

-- ---- nor has one without a anything to simplify

module _ (simple : Control → Control) (a : ℕ) where
  abbrev is_a : ℕ → Bool
  is_a y = y == a

  as_they_are : (y : ℕ) (is : List Control) → is_a y ≡ false
      → cond (y == a) (all_simpler simple is) is ≡ is
  as_they_are y is h = ap (λ t. cond t (all_simpler simple is) is) h

  as_given : (y : ℕ) (ds : List Coord) → is_a y ≡ false
      → cond (y == a) (coords_simpler simple ds) ds ≡ ds
  as_given y ds h = ap (λ t. cond t (coords_simpler simple ds) ds) h

  datum_is : (d : Datum) → in_datum is_a d ≡ false → simplified_datum simple is_a d ≡ d
  datum_is (Const n) h = refl
  datum_is (Read y is) h = ap (Read y) (as_they_are y is (or_parts (is_a y) (in_controls is_a is) h).0)
  datum_is (Negated d) h = ap Negated (datum_is d h)
  datum_is (Relu d) h = ap Relu (datum_is d h)
  datum_is (Plus d e) h = let p = or_parts (in_datum is_a d) (in_datum is_a e) h in
      ap₂ Plus (datum_is d p.0) (datum_is e p.1)
  datum_is (Minus d e) h = let p = or_parts (in_datum is_a d) (in_datum is_a e) h in
      ap₂ Minus (datum_is d p.0) (datum_is e p.1)
  datum_is (Times d e) h = let p = or_parts (in_datum is_a d) (in_datum is_a e) h in
      ap₂ Times (datum_is d p.0) (datum_is e p.1)
  datum_is (Select d e f g) h =
      let p = or_parts (in_datum is_a d) (in_datum is_a e || (in_datum is_a f || in_datum is_a g)) h
      in
      let q = or_parts (in_datum is_a e) (in_datum is_a f || in_datum is_a g) p.1 in
      let r = or_parts (in_datum is_a f) (in_datum is_a g) q.1 in
      ap₂ (λ i j. Select i j (simplified_datum simple is_a f) (simplified_datum simple is_a g))
      (datum_is d p.0) (datum_is e q.0) ∙ ap₂ (Select d e) (datum_is f r.0) (datum_is g r.1)

  argument_is : (g : Argument) → in_argument is_a g ≡ false → simplified_argument simple is_a g ≡ g
  argument_is (ControlArg e) h = refl
  argument_is (ConditionArg c) h = refl
  argument_is (Whole y) h = refl
  argument_is (Window y ds) h =
      ap (Window y) (as_given y ds (or_parts (is_a y) (in_coords is_a ds) h).0)

  arguments_are : (gs : List Argument) → in_arguments is_a gs ≡ false
      → simplified_arguments simple is_a gs ≡ gs
  arguments_are [] h = refl
  arguments_are (g ∷ gs) h =
      let p = or_parts (in_argument is_a g) (in_arguments is_a gs) h in
      ap₂ ◌∷◌ (argument_is g p.0) (arguments_are gs p.1)

  stored_is : (f : ℕ → List Control → Datum → Statement) (y : ℕ) (is : List Control) (d : Datum)
      → (is_a y || (in_controls is_a is || in_datum is_a d)) ≡ false
      → f y (cond (y == a) (all_simpler simple is) is) (simplified_datum simple is_a d) ≡ f y is d
  stored_is f y is d h =
      let p = or_parts (is_a y) (in_controls is_a is || in_datum is_a d) h in
      ap₂ (f y) (as_they_are y is p.0)
      (datum_is d (or_parts (in_controls is_a is) (in_datum is_a d) p.1).1)

  mutual
    pub block_is : (b : Block) → mentions is_a b ≡ false → simplified simple is_a b ≡ b
    block_is end h = refl
    block_is (next d b) h =
        let p = or_parts (in_statement is_a d) (mentions is_a b) h in
        ap₂ next (statement_is d p.0) (block_is b p.1)

    statement_is : (d : Statement) → in_statement is_a d ≡ false
        → simplified_statement simple is_a d ≡ d
    statement_is (Assign y is d) h = stored_is Assign y is d h
    statement_is (Reduce y is d) h = stored_is Reduce y is d h
    statement_is (Config f g) h = ap (Config f) (argument_is g h)
    statement_is Pass h = refl
    statement_is (If c b d) h =
        let p = or_parts (in_condition is_a c) (mentions is_a b || mentions is_a d) h in
        let q = or_parts (mentions is_a b) (mentions is_a d) p.1 in
        ap₂ (If c) (block_is b q.0) (block_is d q.1)
    statement_is (For i lo hi b) h =
        let p = or_parts (is_a i.id) (in_control is_a lo || (in_control is_a hi || mentions is_a b))
        h in
        let q = or_parts (in_control is_a lo) (in_control is_a hi || mentions is_a b) p.1 in
        ap (For i lo hi) (block_is b (or_parts (in_control is_a hi) (mentions is_a b) q.1).1)
    statement_is (Alloc y cell dims memory) h = refl
    statement_is (View w y ds) h =
        let p = or_parts (is_a w.id) (is_a y || in_coords is_a ds) h in
        ap (View w y) (as_given y ds (or_parts (is_a y) (in_coords is_a ds) p.1).0)
    statement_is (Call k gs) h = ap (Call k) (arguments_are gs h)

nothing_more : (b : Block) → joined b end ≡ b
nothing_more end = refl
nothing_more (next a b) = ap (next a) (nothing_more b)

pub untouched_draft_goes : UntouchedDraftGoes
untouched_draft_goes world simple cell memory base x coords name b s none unused no_x =
    let w = sums_of x coords name in
    let a : Binder = record { id = base; name = name } in
    let first = next (Alloc a cell (sizes simple w cell memory base) memory)
    (zero_nest base (loads simple w cell memory base)) in
    let is : simplified simple (λ y. y == base) (converted base x coords b) ≡ b =
    ap (simplified simple (λ y. y == base)) (block_stays base x coords b no_x)
    ∙ block_is simple base b unused in
    subst (λ z. MayReplace world (λ y. y == base) b (joined first z) s)
    (sym (nothing_more (simplified simple (λ y. y == base) (converted base x coords b)) ∙ is))
    (untouched_goes world a cell (sizes simple w cell memory base) memory
    (loads simple w cell memory base) b s none unused)

pub unseen_draft_goes : UnseenDraftGoes
unseen_draft_goes fields memories ps scope root simple cell sides memory base x coords name b s is made
    it adds silent there =
    let kinds = kinds_of fields in
    let world = unit_world kinds ps in
    let w = sums_of x coords name in
    let a : Binder = record { id = base; name = name } in
    let first = next (Alloc a cell (sizes simple w cell memory base) memory)
    (zero_nest base (loads simple w cell memory base)) in
    let inner = converted base x coords b in
    let simpler = simplified simple (λ y. y == base) inner in
    same_may world (goes root base x b) b (joined first inner)
    (staged_block simple w cell memory base false b) s
    (compose world first inner s
    ∙ then_cong (run world first s) (run world inner) (run world (joined simpler end))
    (λ u. simplified_law world simple (λ y. y == base) inner u is
    ∙ ap (λ z. run world z u) (sym (nothing_more simpler)))
    ∙ sym (compose world first (joined simpler end) s))
    (unseen_goes fields memories ps scope (stride_seen kinds ps) root a cell
    (sizes simple w cell memory base) sides memory x coords (loads simple w cell memory base) b s
    (blind_calls_law kinds ps) made it adds silent there)

-- ---- what follows

pub goes_unused : GoesUnused
goes_unused root a x b rest used new =
    block_of_none (λ y. y == a) (λ y. top_binders b y && (roots_behind b root y == root x)) rest new
    used
