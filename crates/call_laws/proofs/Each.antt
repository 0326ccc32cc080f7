-- Each expression of a block is read, wherever its run comes.
use Rattle.std.proofs.Common.{◌≡◌, ℕ, true, not, ◌&&◌, List, [], ◌∷◌, length, Option}
use Rattle.std.proofs.Common.{Some, None, sym, ap, ◌∙◌, subst, true≢false}
use Rattle.std.specs.List.{list_all}
use Rattle.exo_tree.specs.Tree.{Kind, Control, Condition, True, False, Flag, FieldFlag, Lt, Le, Gt}
use Rattle.exo_tree.specs.Tree.{Ge}
use Rattle.exo_tree.specs.Tree.{Eq, And, Or, Datum, Const, Read, Negated, Relu, Plus, Minus, Times}
use Rattle.exo_tree.specs.Tree.{Select, Coord, At, Span, Argument, ControlArg, ConditionArg, Whole}
use Rattle.exo_tree.specs.Tree.{Window, Statement, Assign, Reduce, Config, Pass, If, For, Alloc}
use Rattle.exo_tree.specs.Tree.{View, Call, Block, end, next, Param, ParamKind, ControlParam}
use Rattle.exo_tree.specs.Tree.{TensorParam, WindowParam, Procedure, Program}
use Rattle.exo_tree.specs.Context.{Context, fill}
use Rattle.exo_meaning.specs.Scene.{Scene}
use Rattle.exo_meaning.specs.State.{State}
use Rattle.exo_meaning.specs.Calls.{Callee}
use Rattle.exo_meaning.specs.Run.{program_world, roots_after}
use Rattle.exo_meaning.specs.Units.{Scope, Reads, sort_in, has_rank, has_cell, plainly}
use Rattle.exo_meaning.specs.Units.{with_fields, with_strides, with_both, is_truth, field_kind}
use Rattle.exo_meaning.specs.Units.{is_control, are_controls, is_condition, is_access, is_datum}
use Rattle.exo_meaning.specs.Units.{is_coord, is_window, is_of_kind}
use Rattle.exo_meaning.specs.Units.{is_for, are_for, is_call, is_write, is_new}
use Rattle.exo_meaning.specs.Units.{is_block, is_statement, scope_after}
use Rattle.meaning_laws.specs.Context.{ComesTo}
use Rattle.place_laws.specs.Scope.Holes.{within, roots_at}
use Rattle.place_laws.proofs.OfScope.Within.{holes_compose}
use Rattle.place_laws.proofs.OfScope.WellAtPlace.{well_at_place}
use Rattle.check_laws.proofs.OfFacts.Truths.{parts}
use Rattle.match_laws.specs.Simplify.SameControls.{OfControls, OfCondition, OfDatum, OfCoords, OfArgument}
use Rattle.match_laws.specs.Simplify.SameControls.{OfArguments, OfStatement, OfEach}
use Rattle.match_laws.specs.Simplify.SimplifiedBlocks.{IsRead}
use Rattle.call_laws.specs.Places.{IsThere, scope_in, reading_in, EachIsRead}
use Rattle.call_laws.proofs.Entries.{reads_there}

-- what is so of each expression that keeps the rules is so of each of a statement that does
module _ (fields : ℕ → Option Kind) (scope : Scope) (P : Control → Type 0)
    (so : (reads : Reads) (e : Control) → is_control fields reads scope e ≡ true → P e) where
  controls_so : (reads : Reads) (es : List Control) → are_controls fields reads scope es ≡ true
      → OfControls P es
  controls_so reads [] h = tt
  controls_so reads (e ∷ es) h =
      let q = parts (is_control fields reads scope e) (are_controls fields reads scope es) h in
      (so reads e q.0, controls_so reads es q.1)

  sides_so : (reads : Reads) (a b : Control)
      → (is_control fields reads scope a && is_control fields reads scope b) ≡ true → P a × P b
  sides_so reads a b h =
      let q = parts (is_control fields reads scope a) (is_control fields reads scope b) h in
      (so reads a q.0, so reads b q.1)

  condition_so : (reads : Reads) (c : Condition) → is_condition fields reads scope c ≡ true
      → OfCondition P c
  condition_so reads True h = tt
  condition_so reads False h = tt
  condition_so reads (Flag x) h = tt
  condition_so reads (FieldFlag g) h = tt
  condition_so reads (Lt a b) h = sides_so reads a b h
  condition_so reads (Le a b) h = sides_so reads a b h
  condition_so reads (Gt a b) h = sides_so reads a b h
  condition_so reads (Ge a b) h = sides_so reads a b h
  condition_so reads (Eq a b) h = sides_so reads a b h
  condition_so reads (And c d) h =
      let q = parts (is_condition fields reads scope c) (is_condition fields reads scope d) h in
      (condition_so reads c q.0, condition_so reads d q.1)
  condition_so reads (Or c d) h =
      let q = parts (is_condition fields reads scope c) (is_condition fields reads scope d) h in
      (condition_so reads c q.0, condition_so reads d q.1)

  access_so : (x : ℕ) (is : List Control) → is_access fields scope x is ≡ true → OfControls P is
  access_so x is h =
      controls_so plainly is (parts (has_rank (length is) (sort_in scope x))
      (are_controls fields plainly scope is) h).1

  datum_so : (e : Datum) → is_datum fields scope e ≡ true → OfDatum P e
  datum_so (Const n) h = tt
  datum_so (Read x is) h = access_so x is h
  datum_so (Negated a) h = datum_so a h
  datum_so (Relu a) h = datum_so a h
  datum_so (Plus a b) h =
      let q = parts (is_datum fields scope a) (is_datum fields scope b) h in
      (datum_so a q.0, datum_so b q.1)
  datum_so (Minus a b) h =
      let q = parts (is_datum fields scope a) (is_datum fields scope b) h in
      (datum_so a q.0, datum_so b q.1)
  datum_so (Times a b) h =
      let q = parts (is_datum fields scope a) (is_datum fields scope b) h in
      (datum_so a q.0, datum_so b q.1)
  datum_so (Select a b c d) h =
      let q = parts (is_datum fields scope a && is_datum fields scope b)
      (is_datum fields scope c && is_datum fields scope d) h in
      let r = parts (is_datum fields scope a) (is_datum fields scope b) q.0 in
      let s = parts (is_datum fields scope c) (is_datum fields scope d) q.1 in
      (datum_so a r.0, datum_so b r.1, datum_so c s.0, datum_so d s.1)

  coords_so : (cs : List Coord) → list_all (is_coord fields scope) cs ≡ true → OfCoords P cs
  coords_so [] h = tt
  coords_so (At a ∷ cs) h =
      let q = parts (is_control fields plainly scope a) (list_all (is_coord fields scope) cs) h in
      (so plainly a q.0, coords_so cs q.1)
  coords_so (Span a b ∷ cs) h =
      let q = parts (is_control fields plainly scope a && is_control fields plainly scope b)
      (list_all (is_coord fields scope) cs) h in
      let r = sides_so plainly a b q.0 in
      (r.0, r.1, coords_so cs q.1)

  window_so : (x : ℕ) (cs : List Coord) → is_window fields scope x cs ≡ true → OfCoords P cs
  window_so x cs h =
      coords_so cs (parts (has_rank (length cs) (sort_in scope x))
      (list_all (is_coord fields scope) cs) h).1

  kind_so : (reads : Reads) (kind : Kind) (a : Argument)
      → is_of_kind fields reads scope kind a ≡ true → OfArgument P a
  kind_so reads kind (ControlArg e) h =
      so reads e (parts (not (is_truth kind)) (is_control fields reads scope e) h).1
  kind_so reads kind (ConditionArg c) h =
      condition_so reads c (parts (is_truth kind) (is_condition fields reads scope c) h).1
  kind_so reads kind (Whole x) h = tt
  kind_so reads kind (Window x cs) h = absurd (true≢false (sym h))

  argument_so : (kind : ParamKind) (a : Argument) → is_for fields scope kind a ≡ true
      → OfArgument P a
  argument_so (ControlParam kind) a h = kind_so with_both kind a h
  argument_so (TensorParam cell dims memory) (ControlArg e) h = absurd (true≢false (sym h))
  argument_so (TensorParam cell dims memory) (ConditionArg e) h = absurd (true≢false (sym h))
  argument_so (TensorParam cell dims memory) (Whole x) h = tt
  argument_so (TensorParam cell dims memory) (Window x cs) h =
      let q = parts (has_cell cell (sort_in scope x)) _ h in
      window_so x cs (parts (is_window fields scope x cs) _ q.1).0
  argument_so (WindowParam cell dims memory) (ControlArg e) h = absurd (true≢false (sym h))
  argument_so (WindowParam cell dims memory) (ConditionArg e) h = absurd (true≢false (sym h))
  argument_so (WindowParam cell dims memory) (Whole x) h = tt
  argument_so (WindowParam cell dims memory) (Window x cs) h =
      let q = parts (has_cell cell (sort_in scope x)) _ h in
      window_so x cs (parts (is_window fields scope x cs) _ q.1).0

  arguments_so : (ps : List Param) (args : List Argument) → are_for fields scope ps args ≡ true
      → OfArguments P args
  arguments_so [] [] h = tt
  arguments_so [] (a ∷ args) h = absurd (true≢false (sym h))
  arguments_so (p ∷ ps) [] h = tt
  arguments_so (p ∷ ps) (a ∷ args) h =
      let q = parts (is_for fields scope p.kind a) (are_for fields scope ps args) h in
      (argument_so p.kind a q.0, arguments_so ps args q.1)

  call_so : (root : ℕ → ℕ) (o : Option Callee) (args : List Argument)
      → is_call fields scope root o args ≡ true → OfArguments P args
  call_so root None args h = absurd (true≢false (sym h))
  call_so root (Some callee) args h =
      arguments_so callee.procedure.params args
      (parts (are_for fields scope callee.procedure.params args) _ h).0

  write_so : (o : Option Kind) (a : Argument) → is_write fields scope o a ≡ true → OfArgument P a
  write_so None a h = absurd (true≢false (sym h))
  write_so (Some kind) a h = kind_so with_strides kind a h

  pub statement_so : (memories : ℕ) (callees : ℕ → Option Callee) (root : ℕ → ℕ) (d : Statement)
      → is_statement fields memories callees scope root d ≡ true → OfStatement P d
  statement_so memories callees root (Assign x is e) h =
      let q = parts (is_access fields scope x is) (is_datum fields scope e) h in
      (access_so x is q.0, datum_so e q.1)
  statement_so memories callees root (Reduce x is e) h =
      let q = parts (is_access fields scope x is) (is_datum fields scope e) h in
      (access_so x is q.0, datum_so e q.1)
  statement_so memories callees root (Config g a) h = write_so (fields g) a h
  statement_so memories callees root Pass h = tt
  statement_so memories callees root (If c a b) h =
      condition_so with_fields c (parts (is_condition fields with_fields scope c) _ h).0
  statement_so memories callees root (For i lo hi b) h =
      let q = parts (is_new scope i) _ h in
      sides_so plainly lo hi (parts (is_control fields plainly scope lo
      && is_control fields plainly scope hi) _ q.1).0
  statement_so memories callees root (Alloc x cell dims memory) h =
      let q = parts (is_new scope x) _ h in
      controls_so plainly dims (parts (are_controls fields plainly scope dims) _ q.1).0
  statement_so memories callees root (View w x cs) h =
      let q = parts (is_new scope w) _ h in
      window_so x cs (parts (is_window fields scope x cs) _ q.1).0
  statement_so memories callees root (Call k args) h = call_so root (callees k) args h

-- a run that comes to a hole, and on in what stands there
pub on_there : (u : Program) (p : Procedure) (c : Context) (old : Block) (t : State)
    → IsThere u p c old t → (d : Context) (inner : Block) (v : State)
    → old ≡ fill d inner → ComesTo (program_world u) inner d t v
    → IsThere u p (within c d) inner v
on_there u p c old t there d inner v same come =
    let one = holes_compose inner c d in
    record {
      may = there.may;
      body = there.body ∙ ap (fill c) same ∙ sym one.body;
      first = there.first;
      good = there.good;
      comes = (one.comes (program_world u) there.first v).0 (record {
        middle = t;
        first = subst (λ b. ComesTo (program_world u) b c there.first t) same there.comes;
        second = come;
      });
    }

-- what is so of what is read is so of each expression of the block, wherever its run comes
pub each_so : (u : Program) (p : Procedure) (c : Context) (old : Block) (t : State)
    → IsThere u p c old t → (P : Scene → Control → Type 0)
    → ((scene : Scene) (e : Control) → IsRead (reading_in u p) scene e → P scene e)
    → OfEach (program_world u) P old t
each_so u p c old t there P so d a v same come =
    let fields = field_kind u.fields in
    let memories = length u.memories in
    let callees = (program_world u).callees in
    let inner = on_there u p c old t there d (next a end) v same come in
    let scope = scope_in p (within c d) in
    let root = roots_at (within c d) (λ x. x) in
    let well = well_at_place fields memories callees p (within c d) (next a end)
    there.may.procedure inner.body in
    statement_so fields scope (P v.scene)
    (λ reads e h. so v.scene e (reads_there u p (within c d) (next a end) v reads e inner h))
    memories callees root a
    (parts (is_statement fields memories callees scope root a)
    (is_block fields memories callees (scope_after a scope) (roots_after a root) end) well.piece).0

pub each_is_read : EachIsRead
each_is_read u p c old t there =
    each_so u p c old t there (IsRead (reading_in u p)) (λ scene e h. h)
