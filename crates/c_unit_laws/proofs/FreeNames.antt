-- The names that a printed file declares are free.
use Rattle.std.proofs.Common.{◌≡◌, ◌==◌, ◌++◌, ℕ, zero, suc, ℤ, Bool, true, false, not, ◌&&◌, ◌||◌, cond, List, [], ◌∷◌, length, Option, Some, None, refl, sym, ap, ◌∙◌, subst, true≢false, eqb-true, eq-eqb, ◌⊎◌, ⊎_elim, inl, inr, slice_get}
use Rattle.std.proofs.lemmas.Bool.{and_from}
use Rattle.exo_tree.specs.Tree.{Cell, I32, Binder, Control, Coord, Argument, Param, ParamKind, ControlParam, TensorParam, WindowParam, Statement, Assign, Reduce, Config, Pass, If, For, Alloc, View, Call, Block, end, next, Procedure, Program}
use Rattle.exo_meaning.specs.Scene.{updated}
use Rattle.exo_meaning.specs.Inputs.{is_buffer_of}
use Rattle.exo_meaning.specs.Units.{IsUnit}
use Rattle.inplace_laws.specs.CallInPlace.{AreDistinct}
use Rattle.exo_modes.proofs.OfCalls.Reach.{seeds_are_closed}
use Rattle.memory_kinds.specs.Faults.{fault_of}
use Rattle.c_tree.specs.Names.Words.{Name, same_name, is_in, is_word}
use Rattle.c_tree.specs.Names.Binders.{binders_in, binders_of, param_binders, all_binders}
use Rattle.c_tree.specs.Names.Clash.{first_clash}
use Rattle.c_tree.specs.CTree.{Actual, Element, Number64, Piece, CStatement, Free, CBlock, stop, first, followed_by, CFunction}
use Rattle.c_unit_laws.specs.Follows.Machine.CRun.{names_of_functions}
use Rattle.c_lowering.specs.Made.Lowered.{Hole, Memory, Naming, Form, NoForm, NumberForm}
use Rattle.c_lowering.specs.Made.Lowered.{TensorForm, WindowForm, Forms, forms_after, cell_in}
use Rattle.c_lowering.specs.Made.Lowered.{at_spans, strides_in, param_forms, before, block_of}
use Rattle.c_lowering.specs.Made.Lowered.{called_by, piece_of, actuals_of, allocated, element_of}
use Rattle.c_lowering.specs.Made.Lowered.{stack_count, product_of, dims_of, without_lanes, is_empty}
use Rattle.c_lowering.specs.Made.LoweredUnit.{Printing, formal_of, formals_of, function_of}
use Rattle.c_lowering.specs.Made.LoweredUnit.{function_at, functions_of, is_listed, global_names}
use Rattle.c_lowering.specs.Made.LoweredUnit.{lowered}
use Rattle.c_unit_laws.specs.Follows.Simulation.{Ground}
use Rattle.c_unit_laws.specs.Follows.Good.{IsFresh, IsGoodBlock, AreNamedApart}
use Rattle.c_unit_laws.specs.Follows.Grounds.{bounds_in, naming_of, printed_ground}
use Rattle.c_unit_laws.specs.Follows.Units.{AreLowered}
use Rattle.c_unit_laws.proofs.OfFollows.Bound.{param_there}
use Rattle.c_unit_laws.specs.FreeNames.{is_free, are_free, declared_by, declares_free, step_declares_free, formal_name, formals_are_free, file_names, NamesAreFree, PrintedNamesAreFree}
use Rattle.c_unit_laws.proofs.Spelling.{names_equal, same_self}
use Rattle.c_unit_laws.proofs.Free.{or_false}
use Rattle.c_unit_laws.proofs.Binders.{IsIn, AreIn, all_in, front_in, rear_in}
use Rattle.c_unit_laws.proofs.Names.{clash_parts}
use Rattle.c_unit_laws.proofs.Standing.{none_some, some_same}
use Rattle.c_unit_laws.proofs.Functions.{function_names}
use Rattle.c_unit_laws.proofs.Listed.{listed_here}
use Rattle.c_unit_laws.proofs.Units.{free_names, printed_procedures_are_good}

pub or_parts : {P : Type 0} (a b : Bool) → (a || b) ≡ true → (a ≡ true → P) → (b ≡ true → P) → P
or_parts true b h f g = f refl
or_parts false b h f g = g h

turn_false : (b : Bool) → (b ≡ true → ⊥) → b ≡ false
turn_false true h = absurd (h refl)
turn_false false h = refl

free_from : (around : List Name) (x : Name) → is_word x ≡ false → is_in around x ≡ false → is_free around x ≡ true
free_from around x h k = and_from (not (is_word x)) (not (is_in around x)) (ap not h) (ap not k)

-- ---- a list without clashes

free_list : (around xs : List Name) → first_clash xs ≡ None → ((y : Name) → is_in xs y ≡ true → is_in around y ≡ false) → are_free around xs ≡ true
free_list around [] h k = refl
free_list around (x ∷ xs) h k =
    let p = clash_parts x xs h in
    and_from (is_free around x) (are_free (x ∷ around) xs)
    (free_from around x p.0 (k x (ap (λ t. t || is_in xs x) (same_self x))))
    (free_list (x ∷ around) xs p.2 (λ y i. turn_false (same_name x y || is_in around y) (λ e. or_parts (same_name x y) (is_in around y) e
    (λ d. true≢false (sym i ∙ (ap (is_in xs) (sym (names_equal x y d)) ∙ p.1)))
    (λ d. true≢false (sym d ∙ k y (later y (same_name x y) i))))))
  where
    later : (y : Name) (t : Bool) → is_in xs y ≡ true → (t || is_in xs y) ≡ true
    later y true i = refl
    later y false i = i

-- ---- a name that is freed is declared before

freed_behind : (around : List Name) (x : Name) (c : CBlock) → declares_free around c ≡ true → declares_free around (followed_by c (first (Free x) stop)) ≡ true
freed_behind around x stop h = refl
freed_behind around x (first a c) h = go (are_free around (declared_by a)) (step_declares_free around a) h (freed_behind (declared_by a ++ around) x c)
  where
    go : (s t : Bool) → (s && (t && declares_free (declared_by a ++ around) c)) ≡ true → (declares_free (declared_by a ++ around) c ≡ true → declares_free (declared_by a ++ around) (followed_by c (first (Free x) stop)) ≡ true) → (s && (t && declares_free (declared_by a ++ around) (followed_by c (first (Free x) stop)))) ≡ true
    go true true e rest = rest e
    go true false e rest = absurd (true≢false (sym e))
    go false t e rest = absurd (true≢false (sym e))

-- ---- blocks

module _ (g : Ground) (globals : List Name) (all : List Binder) (ordinary : (b : Binder) → IsIn b all → (is_word (g.naming.binder b.id) ≡ false) × (is_in globals (g.naming.binder b.id) ≡ false)) where
  -- each name that is declared around is a global one or one in scope
  abbrev Covers : List Name → Forms → Type 0
  Covers around forms =
      (y : Name)
      → is_in around y ≡ true
      → (is_in globals y ≡ true) ⊎ ((x : ℕ) × (forms x ≡ NoForm → ⊥) × (same_name (g.naming.binder x) y ≡ true))

  new_is_free : (around : List Name) (forms : Forms) (i : Binder) → Covers around forms → IsIn i all → IsFresh g forms i.id → is_free around (g.naming.binder i.id) ≡ true
  new_is_free around forms i covers there fresh =
      let own = ordinary i there in
      free_from around (g.naming.binder i.id) own.0 (turn_false (is_in around (g.naming.binder i.id)) (λ e.
      ⊎_elim
      (λ k. true≢false (sym k ∙ own.1))
      (λ x. ⊎_elim (λ n. x.1 n) (λ d. true≢false (sym x.2 ∙ d)) (fresh.other_name x.0))
      (covers (g.naming.binder i.id) e)))

  one_more : (around : List Name) (forms : Forms) (i : ℕ) (form : Form) → (form ≡ NoForm → ⊥) → Covers around forms → Covers (g.naming.binder i ∷ around) (updated forms i form)
  one_more around forms i form some covers y h =
      or_parts (same_name (g.naming.binder i) y) (is_in around y) h
      (λ e. inr (i, (λ n. some (sym (ap (λ t. cond t form (forms i)) (eq-eqb i i refl)) ∙ n)), e))
      (λ e. ⊎_elim (λ k. inl k) (λ x. inr (x.0, stays x.0 x.1 (x.0 == i), x.2)) (covers y e))
    where
      stays : (x : ℕ) → (forms x ≡ NoForm → ⊥) → (t : Bool) → cond t form (forms x) ≡ NoForm → ⊥
      stays x k true n = some n
      stays x k false n = k n

  number_there : NumberForm ≡ NoForm → ⊥
  number_there e = cc

  tensor_there : {cell : Cell} {dims : List Control} {lanes : ℕ} → TensorForm cell dims lanes ≡ NoForm → ⊥
  tensor_there e = cc

  window_there : {cell : Cell} {rank : ℕ} → WindowForm cell rank ≡ NoForm → ⊥
  window_there e = cc

  alone : (a : Bool) → a ≡ true → (a && true) ≡ true
  alone true h = refl
  alone false h = absurd (true≢false (sym h))

  allocated_free : (around : List Name) (on_stack : Bool) (element : Element) (x : Name) (n : ℤ) (amount : Number64) (rest : CBlock) → is_free around x ≡ true → declares_free (x ∷ around) rest ≡ true → declares_free around (allocated on_stack element x n amount rest) ≡ true
  allocated_free around true element x n amount rest h k = and_from (is_free around x && true) (declares_free (x ∷ around) rest) (alone (is_free around x) h) k
  allocated_free around false element x n amount rest h k = and_from (is_free around x && true) (declares_free (x ∷ around) (followed_by rest (first (Free x) stop))) (alone (is_free around x) h) (freed_behind (x ∷ around) x rest k)

  called_free : (around : List Name) (k : ℕ) (f : Name) (template : Option (List Hole)) (fill : Hole → Piece) (args : List Actual) (rest : CBlock) → declares_free around rest ≡ true → declares_free around (first (called_by k f template fill args) rest) ≡ true
  called_free around k f None fill args rest h = h
  called_free around k f (Some holes) fill args rest h = h

  mutual
    block_free : (around : List Name) (forms : Forms) (most : ℕ → ℕ) (b : Block) → Covers around forms → AreIn (binders_in b) all → IsGoodBlock g forms most b → declares_free around (block_of g.naming forms b) ≡ true
    block_free around forms most end covers there good = refl
    block_free around forms most (next (Assign x is e) b) covers there good = block_free around forms most b covers there good.1
    block_free around forms most (next (Reduce x is e) b) covers there good = block_free around forms most b covers there good.1
    block_free around forms most (next (Config f a) b) covers there good = block_free around forms most b covers there good.1
    block_free around forms most (next Pass b) covers there good = block_free around forms most b covers there good.1
    block_free around forms most (next (If c a d) b) covers there good =
        let inner = front_in (binders_in a ++ binders_in d) (binders_in b) all there in
        and_from (declares_free around (block_of g.naming forms a) && declares_free around (block_of g.naming forms d)) (declares_free around (block_of g.naming forms b))
        (and_from (declares_free around (block_of g.naming forms a)) (declares_free around (block_of g.naming forms d))
        (block_free around forms most a covers (front_in (binders_in a) (binders_in d) all inner) good.0.1)
        (block_free around forms most d covers (rear_in (binders_in a) (binders_in d) all inner) good.0.2))
        (block_free around forms most b covers (rear_in (binders_in a ++ binders_in d) (binders_in b) all there) good.1)
    block_free around forms most (next (For i lo hi d) b) covers there good =
        let x = g.naming.binder i.id in
        let inside = updated forms i.id NumberForm in
        and_from (is_free around x && declares_free (x ∷ around) (block_of g.naming inside d)) (declares_free around (block_of g.naming forms b))
        (and_from (is_free around x) (declares_free (x ∷ around) (block_of g.naming inside d))
        (new_is_free around forms i covers there.0 good.0.2)
        (block_free (x ∷ around) inside _ d (one_more around forms i.id NumberForm number_there covers) (front_in (binders_in d) (binders_in b) all there.1) good.0.3))
        (block_free around forms most b covers (rear_in (binders_in d) (binders_in b) all there.1) good.1)
    block_free around forms most (next (Alloc x cell dims memory) b) covers there good =
        let m = g.naming.memory memory in
        let own = without_lanes m.lanes dims in
        let later = forms_after g.naming (Alloc x cell dims memory) forms in
        allocated_free around (m.stack || is_empty dims) (element_of m cell) (g.naming.binder x.id) (stack_count own) (product_of (dims_of g.naming own)) (block_of g.naming later b)
        (new_is_free around forms x covers there.0 good.0.1)
        (block_free (g.naming.binder x.id ∷ around) later most b (one_more around forms x.id (TensorForm cell dims m.lanes) tensor_there covers) there.1 good.1)
    block_free around forms most (next (View w x coords) b) covers there good =
        let later = forms_after g.naming (View w x coords) forms in
        and_from (is_free around (g.naming.binder w.id) && true) (declares_free (g.naming.binder w.id ∷ around) (block_of g.naming later b))
        (alone (is_free around (g.naming.binder w.id)) (new_is_free around forms w covers there.0 good.0.3))
        (block_free (g.naming.binder w.id ∷ around) later most b (one_more around forms w.id (WindowForm (cell_in (forms x) I32) (length (at_spans coords (strides_in g.naming x (forms x))))) window_there covers) there.1 good.1)
    block_free around forms most (next (Call k args) b) covers there good =
        called_free around k (g.naming.routine k).name (g.naming.routine k).template (piece_of g.naming forms (g.naming.routine k).params args) (actuals_of g.naming forms (g.naming.routine k).params args) (block_of g.naming forms b) (block_free around forms most b covers there good.1)

  -- ---- parameters

  formal_named : (kind : ParamKind) (x : Name) → formal_name (formal_of kind x) ≡ x
  formal_named (ControlParam kind) x = refl
  formal_named (TensorParam cell dims memory) x = refl
  formal_named (WindowParam cell dims memory) x = refl

  module _ (forms : Forms) (apart : AreNamedApart g forms) (body : CBlock) (body_free : (around : List Name) → Covers around forms → declares_free around body ≡ true) where
    -- each name around is a global one, or that of a parameter before these
    abbrev Earlier : List Param → List Name → Type 0
    Earlier ps around =
        (y : Name)
        → is_in around y ≡ true
        → (is_in globals y ≡ true) ⊎ ((x : ℕ) × (forms x ≡ NoForm → ⊥) × (is_buffer_of x ps ≡ false) × (same_name (g.naming.binder x) y ≡ true))

    params_free : (around : List Name) (ps : List Param) → Earlier ps around → AreIn (param_binders ps) all → AreDistinct ps → ((q : ℕ) → is_buffer_of q ps ≡ true → forms q ≡ NoForm → ⊥) → formals_are_free around (formals_of g.naming ps) body ≡ true
    params_free around [] earlier there distinct known = body_free around (λ y e. ⊎_elim (λ k. inl k) (λ x. inr (x.0, x.1, x.3)) (earlier y e))
    params_free around (p ∷ ps) earlier there distinct known =
        subst (λ n. (is_free around n && formals_are_free (n ∷ around) (formals_of g.naming ps) body) ≡ true) (sym (formal_named p.kind own))
        (and_from (is_free around own) (formals_are_free (own ∷ around) (formals_of g.naming ps) body)
        (free_from around own (ordinary p.binder there.0).0 (turn_false (is_in around own) not_around))
        (params_free (own ∷ around) ps next_earlier there.1 distinct.1 (λ q i. known q (late q (q == p.binder.id) i))))
      where
        own : Name
        own = g.naming.binder p.binder.id

        late : (q : ℕ) (t : Bool) → is_buffer_of q ps ≡ true → (t || is_buffer_of q ps) ≡ true
        late q true i = refl
        late q false i = i

        here : (p.binder.id == p.binder.id || is_buffer_of p.binder.id ps) ≡ true
        here = ap (λ t. t || is_buffer_of p.binder.id ps) (eq-eqb p.binder.id p.binder.id refl)

        not_around : is_in around own ≡ true → ⊥
        not_around e =
            ⊎_elim
            (λ k. true≢false (sym k ∙ (ordinary p.binder there.0).1))
            (λ x. ⊎_elim (λ n. x.1 n) (λ r. ⊎_elim (λ n. known p.binder.id here n) (λ q. ⊎_elim (λ s. true≢false (sym (eq-eqb x.0 p.binder.id s) ∙ (or_false (x.0 == p.binder.id) (is_buffer_of x.0 ps) x.2).0)) (λ d. true≢false (sym x.3 ∙ d)) q) r) (apart.others x.0 p.binder.id))
            (earlier own e)

        next_earlier : Earlier ps (own ∷ around)
        next_earlier y h =
            or_parts (same_name own y) (is_in around y) h
            (λ e. inr (p.binder.id, known p.binder.id here, distinct.0, e))
            (λ e. ⊎_elim (λ k. inl k) (λ x. inr (x.0, x.1, (or_false (x.0 == p.binder.id) (is_buffer_of x.0 ps) x.2).1, x.3)) (earlier y e))

-- ---- files

-- a function of the file is that of a listed procedure
pub record IsOf (program : Program) (globals : List Name) (what : List Printing) (f : CFunction) : Type 0 where
  pub at : ℕ
  pub printing : Printing
  pub there : slice_get what at ≡ Some printing
  pub is : function_at program globals (slice_get program.procedures printing.proc) ≡ f

pub function_of_list : (program : Program) (globals : List Name) (what : List Printing) (i : ℕ) (f : CFunction) → slice_get (functions_of program globals what) i ≡ Some f → IsOf program globals what f
function_of_list program globals [] zero f e = absurd (none_some e)
function_of_list program globals [] (suc i) f e = absurd (none_some e)
function_of_list program globals (w ∷ what) zero f e = record { at = zero; printing = w; there = refl; is = some_same e }
function_of_list program globals (w ∷ what) (suc i) f e =
    let r = function_of_list program globals what i f e in
    record { at = suc r.at; printing = r.printing; there = r.there; is = r.is }

module _ (program : Program) (what : List Printing) (unit : IsUnit program) (lowers : AreLowered fault_of program what) where
  abbrev globals : List Name
  globals = global_names program what

  file_names_are : file_names (lowered program what) ≡ globals
  file_names_are = ap (λ xs. xs ++ (lowered program what).fields) (function_names program globals what)

  procedure_free : (k : ℕ) (p : Procedure) → slice_get program.procedures k ≡ Some p → is_listed what k ≡ true → formals_are_free globals (formals_of (naming_of program what p) p.params) (block_of (naming_of program what p) (param_forms p.params) p.body) ≡ true
  procedure_free k p at listed =
      let g = printed_ground program what k p in
      let forms = param_forms p.params in
      let all = all_binders p in
      let good = printed_procedures_are_good program what k p unit lowers at listed in
      let counted = seeds_are_closed (λ q. true) (is_listed what) program.procedures k listed in
      let ordinary = free_names program what unit lowers k p at counted in
      let inside = all_in all in
      params_free g globals all ordinary forms good.named (block_of (naming_of program what p) forms p.body)
      (λ around covers. block_free g globals all ordinary around forms (bounds_in program what k) p.body covers (rear_in (param_binders p.params) (binders_in p.body) all inside) good.body)
      globals p.params (λ y e. inl e) (front_in (param_binders p.params) (binders_in p.body) all inside) good.distinct (λ q i. param_there p.params q i)

  function_free : (i : ℕ) (f : CFunction) → slice_get (lowered program what).functions i ≡ Some f → formals_are_free (file_names (lowered program what)) f.formals f.body ≡ true
  function_free i f e =
      let own = function_of_list program globals what i f e in
      let there = lowers.listing.there own.at own.printing own.there in
      let is : function_of (naming_of program what there.0) there.0 ≡ f = ap (λ o. function_at program globals o) (sym there.1) ∙ own.is in
      subst (λ h. formals_are_free (file_names (lowered program what)) h.formals h.body ≡ true) is
      (subst (λ xs. formals_are_free xs (formals_of (naming_of program what there.0) there.0.params) (block_of (naming_of program what there.0) (param_forms there.0.params) there.0.body) ≡ true) (sym file_names_are)
      (procedure_free own.printing.proc there.0 there.1 (listed_here what own.at own.printing own.there)))

pub printed_names_are_free : PrintedNamesAreFree
printed_names_are_free program what unit lowers = record {
  of_file = subst (λ xs. are_free [] xs ≡ true) (sym (file_names_are program what unit lowers)) (free_list [] (global_names program what) lowers.named (λ y e. refl));
  of_functions = λ i f e. function_free program what unit lowers i f e;
}
