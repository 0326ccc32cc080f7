-- The rule that puts the body of a loop in its place, where all turns do the same.
use Rattle.std.specs.Prelude.{ℕ, ◌==◌, Bool, ◌&&◌, ◌||◌, if◌then◌else◌, List, [], ◌∷◌, length}
use Rattle.std.specs.Prelude.{Option, Some, None, option_and_then}
use Rattle.std.specs.List.{list_any}
use Rattle.exo_tree.specs.Tree.{Lt, Block, statements}
use Rattle.exo_tree.specs.Places.{Path}
use Rattle.exo_meaning.specs.Units.{bound_ids}
use Rattle.exo_meaning.specs.Unseen.{in_block as mentions}
use Rattle.meaning_laws.specs.Facts.{Holds}
use Rattle.meaning_laws.specs.Fields.{writes_field}
use Rattle.meaning_laws.specs.Touched.{Mode, Reading, Writing, Reducing}
use Rattle.meaning_laws.specs.UnitFields.{unit_writes}
use Rattle.config_state.specs.Reads.{reads_field, unit_reads}
use Rattle.place_laws.specs.Scope.Roots.{own_roots_at}
use Rattle.cursor_forward.specs.Causes.{Cause, NotIdempotent}
use Rattle.cursor_forward.specs.Shifts.{Shift, at_index, range}
use Rattle.place_laws.specs.Order.Overwrite.{touches}
use Rattle.place_laws.specs.Order.RemoveLoop.{is_outside}
use Rattle.place_laws.specs.Order.TurnsOfTwo.{Loop}
use Rattle.step_rules.specs.Rule.{Spot, Need, Says, Rule}
use Rattle.step_rules.specs.Lawful.{around}
use Rattle.loop_laws.specs.Shapes.{loop_of, listed, loop_rule, inside}
use Rattle.proc_laws.specs.Statement.Fields.{some_field}

-- ---- the loop

-- a loop whose body lacks its variable
abbrev pub without_variable : Loop → Option Loop
without_variable l =
    if mentions (λ x. x == l.binder.id) l.body then None else Some l

abbrev pub removable : Block → Option Loop
removable b = option_and_then without_variable (loop_of b)

-- ---- where turns may differ

module _ (s : Spot) (l : Loop) where
  -- the body touches the buffer in that mode, calls included
  abbrev pub body_touches : Mode → ℕ → Bool
  body_touches m y =
      touches s.target.unit.fields s.target.unit.procedures m (own_roots_at (around s)) l.body y

  -- it reduces into a root from outside, or reads one that it writes
  abbrev pub sees_own_root : ℕ → Bool
  sees_own_root y =
      is_outside s.target.proc (around s) y
      && (body_touches Reducing y || (body_touches Writing y && body_touches Reading y))

  -- it reads a field that it writes
  abbrev pub sees_own_field : ℕ → Bool
  sees_own_field f =
      let ps = s.target.unit.procedures in
      writes_field (unit_writes ps) f l.body && reads_field (unit_reads ps) f l.body

  abbrev pub sees_own : Bool
  sees_own =
      list_any sees_own_root (bound_ids s.target.proc)
      || some_field s.target.unit.fields sees_own_field

-- ---- the rule

abbrev pub remove_refusal : Spot → Option Loop → Option Cause
remove_refusal s None = None
remove_refusal s (Some l) = if sees_own s l then Some NotIdempotent else None

-- the loop has a turn
abbrev pub remove_needs : Path → Loop → List Need
remove_needs at l = Says at (Holds (Lt l.lo l.hi)) ∷ []

-- the statements of the body stand where the loop stood
abbrev pub out_of_loop : Loop → List Shift
out_of_loop l = range (inside 1) (length (statements l.body)) (Some (at_index 0)) ∷ []

abbrev pub remove_rule : Rule
remove_rule = record (loop_rule removable (λ l base. l.body) out_of_loop) {
  refusal = λ s. remove_refusal s (removable s.opened.piece);
  needs = λ s. listed removable (remove_needs s.piece.path) s;
}
