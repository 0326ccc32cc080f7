-- Fields that the C of a file does not declare.
use Rattle.std.specs.Prelude.{◌≡◌, ℕ, true, false, List, Some, slice_get}
use Rattle.exo_tree.specs.Tree.{Procedure, Program}
use Rattle.exo_meaning.specs.State.{State}
use Rattle.exo_meaning.specs.Run.{program_world}
use Rattle.exo_meaning.specs.Inputs.{run_procedure}
use Rattle.exo_meaning.specs.Units.{IsUnit}
use Rattle.c_lowering.specs.Made.LoweredUnit.{Printing, is_listed}
use Rattle.c_unit_laws.specs.Follows.Grounds.{declared_in}

-- A run of a printed procedure leaves each of them as it was.
abbrev pub UndeclaredFieldsStay : Type 0
UndeclaredFieldsStay =
    (program : Program) (what : List Printing) (k : ℕ) (p : Procedure) (f : ℕ) (s t : State)
    → IsUnit program
    → slice_get program.procedures k ≡ Some p
    → is_listed what k ≡ true
    → declared_in program what f ≡ false
    → run_procedure (program_world program) p s ≡ Some t
    → t.scene.fields f ≡ s.scene.fields f
