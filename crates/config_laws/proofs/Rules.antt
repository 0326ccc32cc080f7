-- What each rule keeps.
use Rattle.std.proofs.Common.{◌≡◌, ◌<◌, ◌≤◌, ℕ, zero, suc, ◌+◌, Bool, true, false, ◌||◌, List, []}
use Rattle.std.proofs.Common.{◌∷◌}
use Rattle.std.proofs.Common.{Option, Some, None, option_map, refl, sym, ap, ◌∙◌, subst, true≢false}
use Rattle.std.proofs.Common.{arith}
use Rattle.std.specs.Prelude.{if◌then◌else◌, slice_get, slice_index_or, length}
use Rattle.std.specs.Prelude.{option_and_then}
use Rattle.exo_tree.specs.Tree.{Argument, Statement, Assign, Reduce, Config, Pass, If, For, Alloc}
use Rattle.exo_tree.specs.Tree.{View, Call, Block, end, next, joined, Procedure, ConfigField}
use Rattle.exo_tree.specs.Tree.{Program}
use Rattle.exo_tree.specs.Context.{Context, fill, rest_of}
use Rattle.exo_tree.specs.Places.{Step, Path, Opened, opened, statement_at, first_of}
use Rattle.exo_meaning.specs.Calls.{Callee}
use Rattle.exo_meaning.specs.Run.{unit_world, kinds_of}
use Rattle.exo_meaning.specs.Inputs.{Refines}
use Rattle.exo_meaning.specs.Units.{scope_of, is_call, field_kind, is_empty}
use Rattle.meaning_laws.specs.Live.{live, live_behind}
use Rattle.meaning_laws.specs.Sorted.{MayRun, scope_at}
use Rattle.meaning_laws.specs.UnitFields.{unit_live}
use Rattle.meaning_laws.proofs.Parts.{none_some, some_injective, map_gives}
use Rattle.meaning_laws.proofs.Places.{opened_law}
use Rattle.meaning_laws.proofs.Substitute.{and_parts}
use Rattle.place_laws.specs.Scope.Holes.{roots_at, with_rest}
use Rattle.place_laws.specs.Scope.SamePlace.{start_of}
use Rattle.place_laws.proofs.OfScope.SamePlace.{same_place}
use Rattle.place_laws.proofs.OfScope.WellAtPlace.{well_at_place}
use Rattle.config_laws.specs.Live.CallVersion.{called}
use Rattle.config_laws.specs.Surely.{surely_writes, surely_behind, unit_surely}
use Rattle.config_laws.specs.FieldRule.{Got, Not, WrongShape, ConfigLive, NotDescendant}
use Rattle.config_laws.specs.FieldRule.{Piece, Side, Before, Behind, FieldRule, Proposed}
use Rattle.config_laws.specs.FieldRule.{with_fields, or_pass, is_first, is_live, any_live, gap}
use Rattle.config_laws.specs.FieldRule.{surely_from, not_again, fields_at_end, proposed}
use Rattle.config_laws.specs.WriteConfig.{written, gap_at, write_config}
use Rattle.config_laws.specs.Holes.{with_block}
use Rattle.config_laws.specs.Keeps.{WriteConfigRefines, DeleteConfigRefines}
use Rattle.config_laws.specs.Keeps.{BindConfigRefines, CallEqvRefines}
use Rattle.config_laws.specs.DeleteConfig.{write_piece, step_back, previous, where_it_was}
use Rattle.config_laws.specs.DeleteConfig.{behind_or_before}
use Rattle.config_laws.specs.DeleteConfig.{delete_config}
use Rattle.config_laws.specs.BindConfig.{Bound, bound_in, bound_by, bound_call}
use Rattle.config_laws.specs.BindConfig.{write_and_call, bound_piece, bind_config}
use Rattle.config_laws.specs.Differing.{VersionsStand, Origin, is_descendant, differing}
use Rattle.config_laws.specs.CallEqv.{version_piece, call_eqv}
use Rattle.config_laws.proofs.Holes.{written_refines, left_out_refines}
use Rattle.config_laws.proofs.Bind.{bound_refines}
use Rattle.config_laws.proofs.Called.{descendants_may_be_called, version_refines}
use Rattle.config_laws.proofs.PutBack.{put_back, put_behind, within_surely, ahead_surely}
use Rattle.config_laws.proofs.Proposed.{not_got, got_injective, passed, is_proposed}
use Rattle.config_laws.proofs.Proposed.{opened_none, opened_one, from_point, fields_same}

module _ (fields : List ConfigField) (memories : ℕ) (ps : List Procedure) (p : Procedure) where
  -- what is to be shown of a proposal
  abbrev Kept : Proposed → Type 0
  Kept m = MayRun fields memories ps p → MayRun fields memories ps m.proc
      → Refines (unit_world (kinds_of fields) ps) p m.proc
      (fields_at_end ps m.proc.body m.place m.side m.fields)

  -- the fields at the end, by what is surely written behind the hole
  at_point : (body : Block) (at : Path) (side : Side) (fs : List ℕ) (again : ℕ → Bool)
      (q : Procedure) → ((f : ℕ) → surely_from ps body at side f ≡ again f)
      → Refines (unit_world (kinds_of fields) ps) p q (not_again again fs)
      → Refines (unit_world (kinds_of fields) ps) p q (fields_at_end ps body at side fs)
  at_point body at side fs again q h r =
      subst (Refines (unit_world (kinds_of fields) ps) p q)
      (sym (fields_same (surely_from ps body at side) again fs h)) r

  -- behind the first statement of what is put in
  behind_first : (n : ℕ) (path : Path) (o : Opened) (a : Statement) (w : Block)
      → opened n path p.body ≡ Some o → (f : ℕ)
      → surely_from ps (fill o.around (next a w)) path Behind f
      ≡ (surely_writes (unit_surely ps) f w || surely_behind (unit_surely ps) f o.around)
  behind_first n path o a w e f =
      from_point ps (fill o.around (next a w)) path Behind f _ (put_behind n path p.body o a w e)
      ∙ within_surely (unit_surely ps) f a w o.around

-- ---- write_config

no_statements : (side : Side) (p : Procedure) (at : Path) (piece : Piece)
    → gap_at side p at ≡ Got piece → piece.count ≡ 0
no_statements side p at piece e = go (statement_at at p.body) e
  where
    go : (o : Option Statement) → elim o [
      | None ↦ Not WrongShape
      | Some a ↦ Got (record { path = gap at side; count = 0 })
    ] ≡ Got piece → piece.count ≡ 0
    go None e = absurd (not_got e)
    go (Some a) e =
        ap (λ (z : Piece). z.count)
        (sym (got_injective (record { path = gap at side; count = 0 }) piece e))

pub write_config_refines : WriteConfigRefines
write_config_refines fields memories ps side f e p at m h =
    let x = is_proposed (write_config ps side f e) p at m h in
    let o = x.opens in
    let made : written f e ≡ x.made = got_injective (written f e) x.made x.drafted in
    let there : opened 0 x.piece.path p.body ≡ Some o =
    subst (λ n. opened n x.piece.path p.body ≡ Some o)
    (no_statements side p at x.piece x.shape) x.there in
    let empty = opened_none x.piece.path p.body o there in
    let body : p.body ≡ fill o.around end =
    sym (opened_law 0 x.piece.path p.body o there) ∙ ap (fill o.around) empty in
    let dead : live_behind (unit_live ps) f end o.around false ≡ false =
    subst (λ b. live_behind (unit_live ps) f b o.around false ≡ false) empty
    (passed (is_live ps f o) ConfigLive x.accepted) in
    subst (Kept fields memories ps p) x.result
    (subst (λ b. Kept fields memories ps p (with_fields (write_config ps side f e) p x.piece o b))
    made (λ old_ok new_ok.
    at_point fields memories ps p (fill o.around (written f e)) x.piece.path Behind (f ∷ [])
    (λ g. surely_behind (unit_surely ps) g o.around) (with_block p o.around (written f e))
    (behind_first fields memories ps p 0 x.piece.path o (Config f e) end there)
    (written_refines fields memories ps p o.around f e body new_ok dead)))

-- ---- one statement

module _ (fields : List ConfigField) (memories : ℕ) (ps : List Procedure) (p : Procedure)
    (rule : FieldRule) (at : Path) where
  abbrev one_at : Piece
  one_at = record { path = at; count = 1 }

  abbrev alone : Context → Statement → Opened
  alone c a = record { around = c; piece = next a end }

  -- what is to be shown of one statement that is there
  record IsThere (c : Context) (a : Statement) (made : Block) : Type 0 where
    is : Some a ≡ statement_at at p.body
    shape : rule.piece p at ≡ Got one_at
    there : opened 1 at p.body ≡ Some (alone c a)
    drafted : rule.draft p (alone c a) ≡ Got made
    accepted : rule.refusal p (alone c a) ≡ None

  abbrev Made : Context → Statement → Block → Type 0
  Made c a made = Kept fields memories ps p (with_fields rule p one_at (alone c a) made)

  abbrev KeepsOne : Context → Statement → Block → Type 0
  KeepsOne c a made = IsThere c a made → Made c a made

  made_is : (c : Context) (a : Statement) (made other : Block) → made ≡ other → Made c a made
      → Made c a other
  made_is c a made other e h = subst (Made c a) e h

  keeps_same : (c : Context) (a b : Statement) (made : Block) → a ≡ b → KeepsOne c a made
      → KeepsOne c b made
  keeps_same c a b made e h = subst (λ z. KeepsOne c z made) e h

  kept_one : ((piece : Piece) → rule.piece p at ≡ Got piece → one_at ≡ piece)
      → ((c : Context) (a : Statement) (made : Block) → KeepsOne c a made)
      → (m : Proposed) → proposed rule p at ≡ Got m → Kept fields memories ps p m
  kept_one shape keeps m h =
      let x = is_proposed rule p at m h in
      let c = x.opens.around in
      let one : one_at ≡ x.piece = shape x.piece x.shape in
      let there : opened 1 at p.body ≡ Some x.opens =
      subst (λ (z : Piece). opened z.count z.path p.body ≡ Some x.opens) (sym one) x.there in
      let single = opened_one at p.body x.opens there in
      let a = single.statement in
      let same : x.opens ≡ alone c a =
      ap (λ (b : Block). record { around = c; piece = b }) single.same in
      let is : statement_at at p.body ≡ Some a =
      ap (option_and_then (λ (o : Opened). first_of o.piece)) there
      ∙ ap (λ (o : Opened). first_of o.piece) same in
      subst (Kept fields memories ps p) x.result
      (subst (λ z. Kept fields memories ps p (with_fields rule p z x.opens x.made)) one
      (subst (λ z. Kept fields memories ps p (with_fields rule p one_at z x.made)) (sym same)
      (keeps c a x.made (record {
        is = sym is;
        shape = x.shape ∙ ap Got (sym one);
        there = there ∙ ap Some same;
        drafted = ap (rule.draft p) (sym same) ∙ x.drafted;
        accepted = ap (rule.refusal p) (sym same) ∙ x.accepted;
      }))))

or_none : (t : Bool) → (t || false) ≡ t
or_none true = refl
or_none false = refl

-- ---- delete_config

-- behind the statement before it is where it was
one_more : (n k : ℕ) → n ≡ suc k → k + 1 ≡ n
one_more n k h = omega arith

not_empty : (s : Step) (path : Path) → s ∷ path ≡ [] → ⊥
not_empty s path e = cc

some_path : (at : Path) → previous at ≡ Some [] → ⊥
some_path [] e = none_some e
some_path (s ∷ []) e =
    let m = map_gives (step_back s.index s) (λ t. t ∷ []) [] e in not_empty m.0 [] m.2
some_path (s ∷ t ∷ path) e =
    let m = map_gives (previous (t ∷ path)) (λ rest. s ∷ rest) [] e in not_empty s m.0 m.2

gap_behind : (at before : Path) → previous at ≡ Some before → gap before Behind ≡ at
gap_behind [] before e = absurd (none_some e)
gap_behind (s ∷ []) before e = go s.index refl e
  where
    go : (n : ℕ) → s.index ≡ n → option_map (λ t. t ∷ []) (step_back n s) ≡ Some before
        → gap before Behind ≡ s ∷ []
    go zero i e = absurd (none_some e)
    go (suc k) i e =
        subst (λ b. gap b Behind ≡ s ∷ []) (some_injective (record s { index = k } ∷ []) before e)
        (ap (λ n. record s { index = n } ∷ []) (one_more s.index k i))
gap_behind (s ∷ t ∷ path) before e =
    let m = map_gives (previous (t ∷ path)) (λ rest. s ∷ rest) before e in
    go m.0 m.1 m.2 (gap_behind (t ∷ path) m.0 m.1)
  where
    go : (rest : Path) → previous (t ∷ path) ≡ Some rest → s ∷ rest ≡ before
        → gap rest Behind ≡ t ∷ path → gap before Behind ≡ s ∷ t ∷ path
    go [] i e h = absurd (some_path (t ∷ path) i)
    go (u ∷ rest) i e h = subst (λ b. gap b Behind ≡ s ∷ t ∷ path) e (ap (λ q. s ∷ q) h)

module _ (ps : List Procedure) (p : Procedure) (at : Path) (o : Opened)
    (there : opened 1 at p.body ≡ Some o) (f : ℕ) where
  abbrev left : Block
  left = fill o.around (or_pass o.around end)

  abbrev Same : Path → Side → Type 0
  Same place side =
      surely_from ps left place side f ≡ surely_behind (unit_surely ps) f o.around

  least : 0 ≤ 1
  least = omega arith

  -- nothing, or the `pass`
  where_nothing : (x y : Bool)
      → let body = fill o.around (if x then (if y then next Pass end else end) else end) in
      surely_from ps body at Before f ≡ surely_behind (unit_surely ps) f o.around
  where_nothing true true =
      let new : Opened = record { around = o.around; piece = next Pass end } in
      let body = fill o.around (next Pass end) in
      let s = same_place 0 1 at body new least
      (put_back 1 at p.body o (next Pass end) there) in
      let same : s.0.1 ≡ next Pass end =
      ap (λ (q : Block × Block). q.1) (sym (some_injective (end, next Pass end) s.0 s.1.parts))
      in
      from_point ps body at Before f (start_of new s.0) s.1.there
      ∙ ap (λ b. surely_behind (unit_surely ps) f (with_rest o.around
      (joined b (rest_of o.around)))) same
      ∙ ahead_surely (unit_surely ps) f (next Pass end) o.around
  where_nothing true false =
      from_point ps (fill o.around end) at Before f (record { around = o.around; piece = end })
      (put_back 1 at p.body o end there)
  where_nothing false y =
      from_point ps (fill o.around end) at Before f (record { around = o.around; piece = end })
      (put_back 1 at p.body o end there)

  before_it : Same at Before
  before_it = where_nothing (is_first o.around) (is_empty (rest_of o.around))

  where_left : (rest : Block) → Same (where_it_was at rest).0 (where_it_was at rest).1
  where_left (next a b) = before_it
  where_left end = go (previous at) refl
    where
      go : (o : Option Path) → previous at ≡ o
          → Same (behind_or_before o at).0 (behind_or_before o at).1
      go None e = before_it
      go (Some earlier) e = ap (λ q. surely_at q) (gap_behind at earlier e) ∙ before_it
        where
          surely_at : Path → Bool
          surely_at q = surely_from ps left q Before f

write_shape : (at : Path) (piece : Piece) (o : Option Statement) → write_piece at o ≡ Got piece
    → record { path = at; count = 1 } ≡ piece
write_shape at piece (Some (Config f e)) h =
    got_injective (record { path = at; count = 1 }) piece h
write_shape at piece None h = absurd (not_got h)
write_shape at piece (Some (Assign x is e)) h = absurd (not_got h)
write_shape at piece (Some (Reduce x is e)) h = absurd (not_got h)
write_shape at piece (Some Pass) h = absurd (not_got h)
write_shape at piece (Some (If c a b)) h = absurd (not_got h)
write_shape at piece (Some (For i lo hi b)) h = absurd (not_got h)
write_shape at piece (Some (Alloc x cell dims memory)) h = absurd (not_got h)
write_shape at piece (Some (View w x coords)) h = absurd (not_got h)
write_shape at piece (Some (Call k args)) h = absurd (not_got h)

-- a statement that the rule takes
field_written : (at : Path) (piece : Piece) (a : Statement)
    → write_piece at (Some a) ≡ Got piece → (f : ℕ) × (e : Argument) × (Config f e ≡ a)
field_written at piece (Config f e) h = (f, e, refl)
field_written at piece (Assign x is e) h = absurd (not_got h)
field_written at piece (Reduce x is e) h = absurd (not_got h)
field_written at piece Pass h = absurd (not_got h)
field_written at piece (If c a b) h = absurd (not_got h)
field_written at piece (For i lo hi b) h = absurd (not_got h)
field_written at piece (Alloc x cell dims memory) h = absurd (not_got h)
field_written at piece (View w x coords) h = absurd (not_got h)
field_written at piece (Call k args) h = absurd (not_got h)

pub delete_config_refines : DeleteConfigRefines
delete_config_refines fields memories ps p at =
    kept_one fields memories ps p (delete_config ps) at
    (λ piece e. write_shape at piece (statement_at at p.body) e) keeps
  where
    config : (c : Context) (f : ℕ) (e : Argument) (made : Block)
        → KeepsOne fields memories ps p (delete_config ps) at c (Config f e) made
    config c f e made t =
        let o : Opened = record { around = c; piece = written f e } in
        let body : p.body ≡ fill c (written f e) = sym (opened_law 1 at p.body o t.there) in
        let dead : live_behind (unit_live ps) f (written f e) c false ≡ false =
        sym (or_none (is_live ps f o)) ∙ passed (is_live ps f o || false) ConfigLive t.accepted
        in
        let point = where_it_was at (rest_of c) in
        made_is fields memories ps p (delete_config ps) at c (Config f e) end made
        (got_injective end made t.drafted) (λ old_ok new_ok.
        at_point fields memories ps p (fill c (or_pass c end)) point.0 point.1 (f ∷ [])
        (λ g. surely_behind (unit_surely ps) g c) (with_block p c (or_pass c end))
        (λ g. where_left ps p at o t.there g (rest_of c))
        (left_out_refines fields memories ps p c f e body new_ok dead))

    keeps : (c : Context) (a : Statement) (made : Block)
        → KeepsOne fields memories ps p (delete_config ps) at c a made
    keeps c a made t =
        let w = field_written at (record { path = at; count = 1 }) a
        (ap (write_piece at) t.is ∙ t.shape) in
        keeps_same fields memories ps p (delete_config ps) at c (Config w.0 w.1) a made w.2
        (config c w.0 w.1 made) t

-- ---- bind_config

draft_gives : (ps : List Procedure) (x : List ℕ) (f k : ℕ) (o : Option Bound) (made : Block)
    → bound_call ps x f (Some k) o ≡ Got made
    → (b : Bound) × (o ≡ Some b) × (write_and_call f k b ≡ made)
draft_gives ps x f k None made e = absurd (not_got e)
draft_gives ps x f k (Some b) made e = (b, refl, got_injective (write_and_call f k b) made e)

and_then_gives : {A B : Type 0} (f : A → Option B) (o : Option A) (b : B)
    → option_and_then f o ≡ Some b → (a : A) × (f a ≡ Some b)
and_then_gives f None b e = absurd (none_some e)
and_then_gives f (Some a) b e = (a, e)

bind_shape : (ps : List Procedure) (x : List ℕ) (f : ℕ) (at : Path) (piece : Piece)
    (o : Option Bound) → bound_piece ps x f at o ≡ Got piece
    → record { path = at; count = 1 } ≡ piece
bind_shape ps x f at piece None h = absurd (not_got h)
bind_shape ps x f at piece (Some b) h =
    got_injective (record { path = at; count = 1 }) piece h

-- a statement that the rule takes is a call
is_bound : (ps : List Procedure) (x : List ℕ) (f : ℕ) (at : Path) (piece : Piece) (a : Statement)
    → bound_piece ps x f at (bound_by ps x f (Some a)) ≡ Got piece
    → (k : ℕ) × (args : List Argument) × (Call k args ≡ a)
is_bound ps x f at piece (Call k args) h = (k, args, refl)
is_bound ps x f at piece (Config g e) h = absurd (not_got h)
is_bound ps x f at piece (Assign y is e) h = absurd (not_got h)
is_bound ps x f at piece (Reduce y is e) h = absurd (not_got h)
is_bound ps x f at piece Pass h = absurd (not_got h)
is_bound ps x f at piece (If c a b) h = absurd (not_got h)
is_bound ps x f at piece (For i lo hi b) h = absurd (not_got h)
is_bound ps x f at piece (Alloc y cell dims memory) h = absurd (not_got h)
is_bound ps x f at piece (View w y coords) h = absurd (not_got h)

pub bind_config_refines : BindConfigRefines
bind_config_refines fields memories ps name f p at =
    kept_one fields memories ps p (bind_config ps name f) at
    (λ piece e. bind_shape ps name f at piece (bound_by ps name f (statement_at at p.body)) e) keeps
  where
    call : (c : Context) (k : ℕ) (args : List Argument) (made : Block)
        → KeepsOne fields memories ps p (bind_config ps name f) at c (Call k args) made
    call c k args made t =
        let o : Opened = record { around = c; piece = called k args } in
        let body : p.body ≡ fill c (called k args) = sym (opened_law 1 at p.body o t.there) in
        let d = draft_gives ps name f k (bound_by ps name f (Some (Call k args))) made t.drafted in
        let b = d.0 in
        let q = and_then_gives (λ (q : Procedure). bound_in f name q.params args) (slice_get ps k)
        b d.1 in
        let dead = passed (live (unit_live ps) f (called k args)
        (live_behind (unit_live ps) f (called k args) c false)) ConfigLive t.accepted in
        let again = λ (g : ℕ). unit_surely ps k g || surely_behind (unit_surely ps) g c in
        made_is fields memories ps p (bind_config ps name f) at c (Call k args)
        (write_and_call f k b) made d.2
        (λ old_ok new_ok.
        at_point fields memories ps p (fill c (write_and_call f k b)) at Behind (f ∷ []) again
        (with_block p c (write_and_call f k b))
        (λ g. behind_first fields memories ps p 1 at o (Config f b.value)
        (next (Call k b.args) end) t.there g
        ∙ ap (λ z. z || surely_behind (unit_surely ps) g c) (or_none (unit_surely ps k g)))
        (bound_refines fields memories ps p c f k args name q.0.params b body q.1 new_ok dead))

    keeps : (c : Context) (a : Statement) (made : Block)
        → KeepsOne fields memories ps p (bind_config ps name f) at c a made
    keeps c a made t =
        let w = is_bound ps name f at (record { path = at; count = 1 }) a
        (ap (λ o. bound_piece ps name f at (bound_by ps name f o)) t.is ∙ t.shape) in
        keeps_same fields memories ps p (bind_config ps name f) at c (Call w.0 w.1) a made w.2
        (call c w.0 w.1 made) t

-- ---- call_eqv

version_if : (at : Path) (piece : Piece) (t : Bool)
    → (if t then Got (record { path = at; count = 1 }) else Not NotDescendant) ≡ Got piece
    → (t ≡ true) × (record { path = at; count = 1 } ≡ piece)
version_if at piece true h = (refl, got_injective (record { path = at; count = 1 }) piece h)
version_if at piece false h = absurd (not_got h)

-- a statement that the rule takes
record TakesCall (os : List Origin) (j : ℕ) (at : Path) (piece : Piece) (a : Statement) : Type 0
  where
    k : ℕ
    args : List Argument
    is : Call k args ≡ a
    descends : is_descendant os j k ≡ true
    one : record { path = at; count = 1 } ≡ piece

takes_call : (unit : Program) (os : List Origin) (j : ℕ) (at : Path) (piece : Piece)
    (a : Statement) → version_piece unit os j at (Some a) ≡ Got piece → TakesCall os j at piece a
takes_call unit os j at piece (Call k args) h =
    let v = version_if at piece (is_descendant os j k) h in
    record { k = k; args = args; is = refl; descends = v.0; one = v.1 }
takes_call unit os j at piece (Config g e) h = absurd (not_got h)
takes_call unit os j at piece (Assign y is e) h = absurd (not_got h)
takes_call unit os j at piece (Reduce y is e) h = absurd (not_got h)
takes_call unit os j at piece Pass h = absurd (not_got h)
takes_call unit os j at piece (If c a b) h = absurd (not_got h)
takes_call unit os j at piece (For i lo hi b) h = absurd (not_got h)
takes_call unit os j at piece (Alloc y cell dims memory) h = absurd (not_got h)
takes_call unit os j at piece (View w y coords) h = absurd (not_got h)

version_shape : (unit : Program) (os : List Origin) (j : ℕ) (at : Path) (piece : Piece)
    (o : Option Statement) → version_piece unit os j at o ≡ Got piece
    → record { path = at; count = 1 } ≡ piece
version_shape unit os j at piece None h = absurd (not_got h)
version_shape unit os j at piece (Some a) h = (takes_call unit os j at piece a h).one

either : (a b : Bool) → (a || b) ≡ false → (a ≡ false) × (b ≡ false)
either true b h = absurd (true≢false h)
either false b h = (refl, h)

less : (k n : ℕ) → suc k < suc n → k < n
less k n h = omega arith

none_live : (ps : List Procedure) (o : Opened) (fs : List ℕ) (f k : ℕ)
    → any_live ps o fs ≡ false → k < length fs → slice_index_or fs k f ≡ f
    → is_live ps f o ≡ false
none_live ps o [] f k h i e = absurd (none i)
  where
    none : k < 0 → ⊥
    none i = omega arith
none_live ps o (g ∷ fs) f zero h i e =
    ap (λ z. is_live ps z o) (sym e) ∙ (either (is_live ps g o) (any_live ps o fs) h).0
none_live ps o (g ∷ fs) f (suc k) h i e =
    none_live ps o fs f k (either (is_live ps g o) (any_live ps o fs) h).1 (less k (length fs) i) e

-- what is called is there
callee_there : (fields : List ConfigField) (memories : ℕ) (ps : List Procedure) (p : Procedure)
    (c : Context) (k : ℕ) (args : List Argument) → MayRun fields memories ps p
    → p.body ≡ fill c (called k args)
    → (d : Callee) × ((unit_world (kinds_of fields) ps).callees k ≡ Some d)
callee_there fields memories ps p c k args ok body =
    go ((unit_world (kinds_of fields) ps).callees k) (and_parts (is_call (field_kind fields)
    (scope_at c (scope_of [] p.params)) (roots_at c (λ x. x))
    ((unit_world (kinds_of fields) ps).callees k) args) _ (well_at_place (field_kind fields)
    memories (unit_world (kinds_of fields) ps).callees p c (called k args) ok.procedure
    body).piece).0
  where
    go : (o : Option Callee) → is_call (field_kind fields) (scope_at c (scope_of [] p.params))
        (roots_at c (λ x. x)) o args ≡ true → (d : Callee) × (o ≡ Some d)
    go None h = absurd (true≢false (sym h))
    go (Some d) h = (d, refl)

module _ (unit : Program) (os : List Origin) (j : ℕ) (p : Procedure) (at : Path) where
  abbrev there_are : List Procedure
  there_are = unit.procedures

  abbrev memory_count : ℕ
  memory_count = length unit.memories

  abbrev KeepsCall : Context → Statement → Block → Type 0
  KeepsCall c a made =
      KeepsOne unit.fields memory_count there_are p (call_eqv unit os j) at c a made

  call_kept : VersionsStand unit os → (c : Context) (k : ℕ)
      (args : List Argument) (made : Block) → is_descendant os j k ≡ true
      → KeepsCall c (Call k args) made
  call_kept versions c k args made is t =
      let o : Opened = record { around = c; piece = called k args } in
      let q : Procedure = with_block p c (called j args) in
      let fs = differing unit os j k in
      let body : p.body ≡ fill c (called k args) = sym (opened_law 1 at p.body o t.there) in
      let free = passed (any_live there_are o fs) ConfigLive t.accepted in
      made_is unit.fields memory_count there_are p (call_eqv unit os j) at c (Call k args)
      (called j args) made (got_injective (called j args) made t.drafted)
      (λ old_ok new_ok.
      let one = callee_there unit.fields memory_count there_are p c k args old_ok body in
      let two = callee_there unit.fields memory_count there_are q c j args new_ok refl in
      at_point unit.fields memory_count there_are p (fill c (called j args)) at Behind fs
      (λ g. surely_behind (unit_surely there_are) g c) q
      (behind_first unit.fields memory_count there_are p 1 at o (Call j args) end t.there)
      (version_refines unit.fields memory_count there_are c k j args p q one.0 two.0 fs
      (record { old = body; new = refl }) old_ok new_ok one.1 two.1
      (descendants_may_be_called unit os k j one.0 two.0 versions is one.1 two.1)
      (λ f i. none_live there_are o fs f i.0 free i.1 i.2)))

pub call_eqv_refines : CallEqvRefines
call_eqv_refines unit os j versions p at =
    kept_one unit.fields (length unit.memories) unit.procedures p (call_eqv unit os j) at
    (λ piece e. version_shape unit os j at piece (statement_at at p.body) e) keeps
  where
    keeps : (c : Context) (a : Statement) (made : Block) → KeepsCall unit os j p at c a made
    keeps c a made t =
        let w = takes_call unit os j at (record { path = at; count = 1 }) a
        (ap (version_piece unit os j at) t.is ∙ t.shape) in
        keeps_same unit.fields (length unit.memories) unit.procedures p (call_eqv unit os j) at c
        (Call w.k w.args) a made w.is
        (call_kept unit os j p at versions c w.k w.args made w.descends) t
