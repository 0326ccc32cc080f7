-- A loop of a procedure in two, and two loops in one, where no call is made.
use Rattle.std.proofs.Common.{◌≡◌, ◌++◌, ℕ, ℤ, pos, ◌+ℤ◌, ◌==◌, ◌||◌, Bool, true}
use Rattle.std.proofs.Common.{false, true≢false, List, [], ◌∷◌, Option, Some, None, refl, sym, ap}
use Rattle.std.proofs.Common.{◌∙◌, subst, eqb-true, IfSome, option_map}
use Rattle.std.proofs.lemmas.List.{append-nil}
use Rattle.std.proofs.Math.Path.{fun_ext}
use Rattle.exo_tree.specs.Tree.{Index, Lit, Var, Add, Const, For, Block, end, next}
use Rattle.exo_tree.specs.Tree.{Procedure, ConfigField, StrideOf, Argument, ControlArg}
use Rattle.exo_tree.specs.Context.{Here}
use Rattle.exo_meaning.specs.Scene.{Scene, Seen, then_do, cell_at}
use Rattle.exo_meaning.specs.State.{State}
use Rattle.exo_meaning.specs.Run.{World, turns, kinds_of, unit_world}
use Rattle.exo_meaning.specs.Inputs.{Refines}
use Rattle.exo_meaning.specs.Footprint.{Entry, IsTidy, further, written}
use Rattle.exo_meaning.specs.Nests.{IsAt}
use Rattle.exo_meaning.proofs.Together.{turns_commute}
use Rattle.exo_meaning.specs.Units.{ControlName, with_name, field_kind}
use Rattle.exo_meaning.specs.Unseen.{in_block as mentions}
use Rattle.meaning_laws.specs.Copies.{IsFree}
use Rattle.meaning_laws.specs.Substitute.{catches}
use Rattle.meaning_laws.specs.Fields.{HasField}
use Rattle.meaning_laws.specs.UnitFields.{unit_writes}
use Rattle.meaning_laws.specs.NestsWithin.{IsBefore}
use Rattle.meaning_laws.specs.Pairs.{LeavesFields, AreClear}
use Rattle.meaning_laws.proofs.Fields.{fields_are_kept}
use Rattle.meaning_laws.proofs.UnitFields.{unit_leaves}
use Rattle.meaning_laws.specs.Touched.{unit_modes, turn_touched}
use Rattle.meaning_laws.proofs.Swaps.{swap, swap_moves}
use Rattle.meaning_laws.proofs.Examples.{stored, all_of_it, input, is_admissible, no_fields}
use Rattle.meaning_laws.proofs.UnitInstances.{three_named, input_is_sound}
use Rattle.place_laws.specs.Order.TurnsOfTwo.{Loop, in_a_row, in_turn, halves, turn_of}
use Rattle.place_laws.specs.Order.TurnsOfTwo.{HalvesAreClear, HalvesExchange, GoInTurn}
use Rattle.place_laws.specs.Order.PartedLoops.{with_body, of_both, alone, parted, fused, bound_by}
use Rattle.place_laws.specs.Order.PartedPlaces.{HasLoops}
use Rattle.place_laws.specs.Order.WrittenFirst.{writing, HasWrite}
use Rattle.place_laws.proofs.OfOrder.WrittenPlaces.{writes_read_none, written_first_refines}
use Rattle.meaning_laws.specs.Live.{read_by_argument}
use Rattle.place_laws.proofs.OfOrder.TurnsOfTwo.{turns_of_two}
use Rattle.place_laws.proofs.OfOrder.Caught.{nothing_is_caught}
use Rattle.place_laws.proofs.OfOrder.PartedLoops.{second_is_apart, turn_by_turn, split_halves}
use Rattle.place_laws.proofs.OfOrder.PartedPlaces.{fission_refines, fuse_refines}
use Rattle.place_laws.proofs.OfOrder.TurnExamples.{ps, world, scope, spot, stores, first, second}
use Rattle.place_laws.proofs.OfOrder.TurnExamples.{stores_leave, is_unit, is_zero, is_one}

-- ---- the loops

-- x[i + 8] = 5, where i is this variable
abbrev ahead : ℕ → Block
ahead i = stored 0 (Add (Var i) (Lit (pos 8)) ∷ []) (Const (pos 5))

-- for j in seq(0, 2): x[j + 8] = 5
abbrev other : Loop
other = with_body second (ahead 2)

-- ---- names

-- for j in seq(0, i): x[j] = 3
abbrev nested : Block
nested = next (For second.binder (Lit (pos 0)) (Var 1) (stored 0 (Var 2 ∷ []) (Const (pos 3)))) end

-- i + 1 may stand for i there
none_caught : catches 1 (Add (Var 1) (Lit (pos 1))) nested ≡ false
none_caught =
    nothing_is_caught [] 1 ps (with_name scope first.binder (ControlName Index)) (λ x. x) 1 Index
    (Add (Var 1) (Lit (pos 1))) nested refl refl refl (λ x h. go x (x == 2) refl h)
  where
    go : (x : ℕ) (t : Bool) → (x == 2) ≡ t → ((t || false) || false) ≡ true
        → ((x == 1) || false) ≡ false
    go x true e h = subst (λ y. ((y == 1) || false) ≡ false) (sym (eqb-true x 2 e)) refl
    go x false e h = absurd (true≢false (sym h))

-- neither loop uses the other's variable
are_apart : mentions (bound_by first) other.body ≡ false
are_apart = second_is_apart (λ x. x == 0) first other refl (λ x h. go x (x == 1) refl h)
  where
    go : (x : ℕ) (t : Bool) → (x == 1) ≡ t → (t || false) ≡ true → ((x == 2) || false) ≡ false
    go x true e h = subst (λ y. ((y == 2) || false) ≡ false) (sym (eqb-true x 1 e)) refl
    go x false e h = absurd (true≢false (sym h))

-- ---- turns

-- a unit without procedures
abbrev plain : World
plain = unit_world (λ f. Index) []

ahead_leaves : LeavesFields plain (ahead 2)
ahead_leaves s t e = fun_ext (λ f. subst (λ o. IfSome o (HasField f s)) e
    (fields_are_kept plain (unit_writes []) (unit_leaves (λ g. Index) []) f (ahead 2) refl s))

abbrev Swap : ℤ → ℤ → State → Type 0
Swap m n t = then_do (turn_of plain other m t) (turn_of plain first n)
    ≡ then_do (turn_of plain first n t) (turn_of plain other m)

-- turn 0 stores in x[8], turn 1 in x[1]
they_swap : HalvesExchange (IsAt input) (IsBefore input.scene first.lo first.hi)
    (halves plain first other)
they_swap m n before t h =
    let here : t ≡ record { scene = input.scene; cells = t.cells } =
    ap {B = State} (λ (z : Scene). record { scene = z; cells = t.cells }) h.0 in
    subst (λ a. Swap a n t) (sym (is_zero m n before.0 before.1 before.2))
    (subst (λ b. Swap (pos 0) b t) (sym (is_one m n before.0 before.1 before.2))
    (subst (λ (u : State). Swap (pos 0) (pos 1) u) (sym here)
    (turns_commute (λ f. Index) 2 1 (ahead 2) stores (pos 0) (pos 1)
    (record { scene = input.scene; cells = t.cells }) (subst IsTidy here h.1) refl refl
    ((λ u. refl), tt) ((λ u. refl), tt))))

in_turn_or_not : GoInTurn plain first other input
in_turn_or_not = turns_of_two plain first other input is_admissible.tidy
    (record { agree = (refl, refl); first = no_fields; second = ahead_leaves }) they_swap

abbrev both_turns : ℤ → State → Option State
both_turns n t = then_do (turn_of plain first n t) (turn_of plain other n)

turn_by_turn_of_two : turns both_turns (pos 0 ∷ pos 1 ∷ []) input
    ≡ turns (halves plain first other) (in_turn (pos 0 ∷ pos 1 ∷ [])) input
turn_by_turn_of_two = turn_by_turn plain first other (pos 0 ∷ pos 1 ∷ []) input

two_parts : turns (turn_of plain (of_both first (ahead 1))) (pos 0 ∷ pos 1 ∷ []) input
    ≡ turns (halves plain first (with_body first (ahead 1))) (in_turn (pos 0 ∷ pos 1 ∷ [])) input
two_parts = split_halves plain first (ahead 1) (pos 0 ∷ pos 1 ∷ []) input refl refl
    (record { sound = input_is_sound; unbound = λ x e. absurd (true≢false (sym e)) })

-- ---- what turns touch, at any input

abbrev touches : Loop → ℤ → State → List Entry
touches l n t = turn_touched world (unit_modes (kinds_of []) ps) l.binder l.body n t

-- the cell of x at this index, by what x sees
abbrev cell_of : Option Seen → ℤ → List Entry
cell_of o n = written (then_do o (λ z. option_map
    (λ at. record { buffer = z.buffer; at = at }) (cell_at z.sides (n ∷ []))))

none_further : (o : Option State) → further o (λ t. []) ≡ []
none_further None = refl
none_further (Some t) = refl

one_cell : (o : Option Seen) (n : ℤ) (t : Option State)
    → cell_of o n ++ further t (λ u. []) ≡ cell_of o n
one_cell o n t = ap (λ r. cell_of o n ++ r) (none_further t) ∙ append-nil (cell_of o n)

abbrev TouchesAhead : Loop → Type 0
TouchesAhead l = (n : ℤ) (t : State) → touches l n t ≡ cell_of (t.scene.views 0) (n +ℤ pos 8)

first_touches : (n : ℤ) (t : State) → touches first n t ≡ cell_of (t.scene.views 0) n
first_touches n t = one_cell (t.scene.views 0) n _

other_touches : TouchesAhead other
other_touches n t = one_cell (t.scene.views 0) (n +ℤ pos 8) _

part_touches : TouchesAhead (with_body first (ahead 1))
part_touches n t = one_cell (t.scene.views 0) (n +ℤ pos 8) _

clear_of : (l : Loop) → TouchesAhead l → (u : State) → u.scene.views 0 ≡ Some all_of_it
    → HalvesAreClear spot first l u
clear_of l by u sees t m n e before =
    let views : t.scene.views 0 ≡ Some all_of_it = ap (λ (z : Scene). z.views 0) e ∙ sees in
    subst (λ a. AreClear t.scene (touches l a t) (touches first n t))
    (sym (is_zero m n before.0 before.1 before.2))
    (subst (λ b. AreClear t.scene (touches l (pos 0) t) (touches first b t))
    (sym (is_one m n before.0 before.1 before.2))
    (subst (λ xs. AreClear t.scene xs (touches first (pos 1) t)) (sym (by (pos 0) t))
    (subst (λ ys. AreClear t.scene (cell_of (t.scene.views 0) (pos 8)) ys)
    (sym (first_touches (pos 1) t))
    (subst (λ o. AreClear t.scene (cell_of o (pos 8)) (cell_of o (pos 1))) (sym views)
    (((λ v. refl), tt), ((λ v. refl), tt))))))

-- ---- the procedures

-- def two(x: i8[16]): both loops
abbrev two : Procedure
two = record three_named { body = in_a_row first other }

other_leaves : (i : ℕ) → LeavesFields world (ahead i)
other_leaves i s t e = fun_ext (λ f. subst (λ o. IfSome o (HasField f s)) e
    (fields_are_kept world (unit_writes ps) (unit_leaves (kinds_of []) ps) f (ahead i) refl s))

two_have : HasLoops spot two (Here end) (in_a_row first other) first other
two_have = record {
  may = record {
    unit = is_unit;
    procedure = record {
      params = refl;
      asserts = refl;
      body = refl;
      filled = refl;
      ids = refl;
      distinct = refl;
      paths = refl;
      template = refl;
    };
  };
  is_there = refl;
  scope = refl;
  root = refl;
  first = stores_leave;
  second = other_leaves 2;
  free = λ x e. absurd (true≢false (sym e));
}

fuse : Refines world two (record two { body = alone (fused first other) }) []
fuse = fuse_refines spot two (Here end) first other two_have are_apart
    (λ s u good come. (refl, refl))
    (λ s u good come. clear_of other other_touches u
    (ap (λ (t : State). t.scene.views 0) come ∙ good.arguments.0.1))

-- def one(x: i8[16]): a loop with both bodies
abbrev one : Procedure
one = record three_named { body = alone (of_both first (ahead 1)) }

one_has : HasLoops spot one (Here end) (alone (of_both first (ahead 1))) first
    (with_body first (ahead 1))
one_has = record {
  may = record {
    unit = is_unit;
    procedure = record {
      params = refl;
      asserts = refl;
      body = refl;
      filled = refl;
      ids = refl;
      distinct = refl;
      paths = refl;
      template = refl;
    };
  };
  is_there = refl;
  scope = refl;
  root = refl;
  first = stores_leave;
  second = other_leaves 1;
  free = λ x e. absurd (true≢false (sym e));
}

part : Refines world one (record one { body = parted first (ahead 1) (swap 1 2) }) []
part = fission_refines spot one (Here end) first (ahead 1) (swap 1 2) one_has refl
    (swap_moves 1 2 (IsFree one (Here end)) (refl, refl) (refl, refl))
    (λ s u good come. clear_of (with_body first (ahead 1)) part_touches u
    (ap (λ (t : State). t.scene.views 0) come ∙ good.arguments.0.1))

-- ---- a field that is written first

abbrev one_field : List ConfigField
one_field = record { config = 67 ∷ []; name = 102 ∷ []; kind = Index } ∷ []

-- C.f = stride(x, 0) + 7
abbrev right : Argument
right = ControlArg (Add (StrideOf 0 0) (Lit (pos 7)))

it_reads_none : read_by_argument 0 right ≡ false
it_reads_none = writes_read_none (field_kind one_field) scope (Some Index) right 0 refl

-- def set(x: i8[16]): for i in seq(0, 2): C.f = stride(x, 0) + 7; x[i + 8] = 5
abbrev set : Procedure
set = record three_named { body = alone (of_both (writing first 0 right) (ahead 1)) }

set_has : HasWrite one_field 1 [] set (Here end) first 0 right (ahead 1)
set_has = record {
  may = record {
    unit = tt;
    procedure = record {
      params = refl;
      asserts = refl;
      body = refl;
      filled = refl;
      ids = refl;
      distinct = refl;
      paths = refl;
      template = refl;
    };
  };
  is_there = refl;
  free = (refl, refl);
  steady = refl;
  unwritten = refl;
}

part_write : Refines (unit_world (kinds_of one_field) []) set
    (record set { body = parted (writing first 0 right) (ahead 1) (swap 1 2) }) []
part_write = written_first_refines one_field 1 [] set (Here end) first 0 right (ahead 1) (swap 1 2)
    set_has (swap_moves 1 2 (IsFree set (Here end)) (refl, refl) (refl, refl))
