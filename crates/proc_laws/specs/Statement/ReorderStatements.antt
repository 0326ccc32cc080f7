-- The rule by which two neighbouring statements change places.
use Rattle.std.specs.Prelude.{ℕ, Bool, ◌&&◌, ◌||◌, if◌then◌else◌, List, [], ◌∷◌}
use Rattle.std.specs.Prelude.{Option, Some, None, option_and_then}
use Rattle.exo_tree.specs.Tree.{Statement, Block, end, next, Procedure}
use Rattle.exo_tree.specs.Places.{Main, Path, opened}
use Rattle.exo_meaning.specs.Unseen.{in_statement}
use Rattle.meaning_laws.specs.Fields.{step_writes_field}
use Rattle.meaning_laws.specs.Sound.{binds}
use Rattle.meaning_laws.specs.UnitFields.{unit_writes}
use Rattle.config_state.specs.Reads.{step_reads_field, unit_reads}
use Rattle.place_laws.specs.Scope.PlacesCompose.{onward}
use Rattle.cursor_forward.specs.Causes.{Cause, ConfigWrite}
use Rattle.cursor_forward.specs.Shifts.{Shift, at_index, range}
use Rattle.effect_laws.specs.Fits.{neighbours_conflict}
use Rattle.place_laws.specs.Order.Reorder.{pair}
use Rattle.step_rules.specs.Rule.{Tried, Target, Piece, Spot, Need, Apart, Rule, plain_rule}
use Rattle.step_rules.specs.Shapes.{tried}
use Rattle.proc_laws.specs.Statement.Fields.{some_field}

-- ---- the statements

pub record Neighbours : Type 0 where
  pub first : Statement
  pub second : Statement

-- two statements that are all of a block
abbrev pub both_of : Block → Option Neighbours
both_of end = None
both_of (next a end) = None
both_of (next a (next b end)) = Some (record { first = a; second = b })
both_of (next a (next b (next c rest))) = None

-- the second does not mention what the first binds
abbrev pub unbound_by_first : Neighbours → Option Neighbours
unbound_by_first n = if in_statement (binds n.first) n.second then None else Some n

abbrev pub neighbours_of : Block → Option Neighbours
neighbours_of b = option_and_then unbound_by_first (both_of b)

-- the statement at the path and the next one
abbrev pub with_next : Target → Path → Tried Piece
with_next t at =
    tried (option_and_then (λ o. neighbours_of o.piece) (opened 2 at t.proc.body))
    (λ n. record { path = at; count = 2 })

-- ---- fields

module _ (ps : List Procedure) (f : ℕ) where
  abbrev pub uses_field : Statement → Bool
  uses_field a = step_writes_field (unit_writes ps) f a || step_reads_field (unit_reads ps) f a

  -- one writes the field, and the other reads or writes it
  abbrev pub share_field : Neighbours → Bool
  share_field n =
      (step_writes_field (unit_writes ps) f n.first && uses_field n.second)
      || (step_writes_field (unit_writes ps) f n.second && uses_field n.first)

-- ---- the rule

abbrev pub reorder_refusal : Spot → Option Neighbours → Option Cause
reorder_refusal s None = None
reorder_refusal s (Some n) =
    let unit = s.target.unit in
    if some_field unit.fields (λ f. share_field unit.procedures f n) then Some ConfigWrite else None

-- the path to the next statement
abbrev pub next_place : Path → Path
next_place at = onward at (record { branch = Main; index = 1 }) []

abbrev pub reorder_needs : Path → Option Neighbours → List Need
reorder_needs at None = []
reorder_needs at (Some n) = Apart at (neighbours_conflict at (next_place at)) ∷ []

abbrev pub exchanged : List Shift
exchanged =
    range (at_index 0) 1 (Some (at_index 1)) ∷ range (at_index 1) 1 (Some (at_index 0)) ∷ []

abbrev pub reorder_rule : Rule
reorder_rule = record (plain_rule with_next
    (λ s base. tried (neighbours_of s.opened.piece) (λ n. pair n.second n.first))
    (λ s. exchanged)) {
      refusal = λ s. reorder_refusal s (neighbours_of s.opened.piece);
      needs = λ s. reorder_needs s.piece.path (neighbours_of s.opened.piece);
    }
