-- The rule that exchanges a loop and the one loop in it.
use Rattle.std.specs.Prelude.{ℕ, Bool, not, ◌&&◌, if◌then◌else◌, List, [], ◌∷◌, Option, Some, None}
use Rattle.std.specs.Prelude.{option_and_then}
use Rattle.exo_tree.specs.Tree.{Block}
use Rattle.exo_tree.specs.Places.{Path}
use Rattle.meaning_laws.specs.Substitute.{has_variable}
use Rattle.place_laws.specs.Scope.PlacesCompose.{onward}
use Rattle.place_laws.specs.Scope.UnrollLoop.{only_loop}
use Rattle.cursor_forward.specs.Shifts.{Shift, at_index, alone, range}
use Rattle.place_laws.specs.Order.TurnsOfTwo.{Loop}
use Rattle.effect_laws.specs.Apart.{Conflict}
use Rattle.effect_laws.specs.Fits.{nest_conflict}
use Rattle.step_rules.specs.Rule.{Need, Apart, Rule, plain_rule}
use Rattle.step_rules.specs.Shapes.{tried, one_statement}
use Rattle.loop_laws.specs.Shapes.{loop_of, inside}
use Rattle.loop_laws.specs.Nest.Shapes.{unless_it_writes, header_of, size, step}

-- ---- a loop in a loop

pub record Nest : Type 0 where
  pub outer : Loop
  pub inner : Loop

-- the bounds lack the variable
abbrev pub bounds_lack : ℕ → Loop → Bool
bounds_lack x l = not (has_variable l.lo x) && not (has_variable l.hi x)

abbrev pub with_inner : Loop → Loop → Option Nest
with_inner k l =
    if bounds_lack k.binder.id l then Some (record { outer = k; inner = l }) else None

-- a loop that is all of a block, and whose body is one loop
abbrev pub nest_of : Block → Option Nest
nest_of b =
    option_and_then (λ (k : Loop). option_and_then (with_inner k) (loop_of k.body)) (loop_of b)

-- ---- the inner one outside

abbrev pub turned : Nest → Block
turned n =
    only_loop n.inner.binder n.inner.lo n.inner.hi
    (only_loop n.outer.binder n.outer.lo n.outer.hi n.inner.body)

-- the body at a turn of both against that at a later one of the outer loop and an earlier one of
-- the inner loop
abbrev pub turns_conflict : Path → Nest → Conflict
turns_conflict at n =
    nest_conflict (header_of n.outer) (header_of n.inner) (onward at (step 0) (inside 1))
    (size n.inner.body)

abbrev pub reorder_needs : Path → Nest → List Need
reorder_needs at n = Apart at (turns_conflict at n) ∷ []

-- the loops change places, and the body stays
abbrev pub reorder_shifts : Nest → List Shift
reorder_shifts n =
    alone (at_index 0) (Some (inside 1))
    ∷ alone (inside 1) (Some (at_index 0))
    ∷ range (inside 2) (size n.inner.body) (Some (inside 2))
    ∷ []

abbrev pub of_nest : {T : Type 0} → (Nest → List T) → Option Nest → List T
of_nest list None = []
of_nest list (Some n) = list n

abbrev pub reorder_rule : Rule
reorder_rule = record (plain_rule (one_statement nest_of)
    (λ s base. tried (nest_of s.opened.piece) turned)
    (λ s. of_nest reorder_shifts (nest_of s.opened.piece))) {
      refusal = unless_it_writes;
      needs = λ s. of_nest (reorder_needs s.piece.path) (nest_of s.opened.piece);
    }
