-- Fields that the C does not declare: nothing that is printed writes them.
use Rattle.std.specs.Prelude.{◌≡◌, ℕ, pos, nat_lt, true, false, List, [], ◌∷◌, length, codes, Some}
use Rattle.std.specs.Prelude.{None, slice_get}
use Rattle.exo_tree.specs.Tree.{Size, Lit, ControlArg, Config, end, next, ConfigField, Procedure}
use Rattle.exo_tree.specs.Tree.{Program}
use Rattle.exo_meaning.specs.State.{State}
use Rattle.exo_meaning.specs.Run.{program_world}
use Rattle.exo_meaning.specs.Inputs.{run_procedure}
use Rattle.exo_meaning.specs.Units.{IsUnit}
use Rattle.c_lowering.specs.Made.LoweredUnit.{Printing, counts}
use Rattle.c_lowering.specs.Made.Examples.{printed, dram}
use Rattle.c_unit_laws.specs.Follows.Grounds.{declared_in}

-- A procedure that is printed, or called by one, leaves each field that the C does not declare as
-- it was: neither it nor what it calls writes it.
abbrev pub UndeclaredFieldsStay : Type 0
UndeclaredFieldsStay =
    (program : Program) (what : List Printing) (k f : ℕ) (p : Procedure) (s t : State)
    → IsUnit program
    → slice_get program.procedures k ≡ Some p
    → counts program what k ≡ true
    → nat_lt f (length program.fields) ≡ true
    → declared_in program what f ≡ false
    → run_procedure (program_world program) p s ≡ Some t
    → t.scene.fields f ≡ s.scene.fields f

-- ---- an instance

-- def f(): Cfg.a = 8
abbrev pub setter : Procedure
setter = record {
  name = codes "f";
  params = [];
  asserts = [];
  body = next (Config 0 (ControlArg (Lit (pos 8)))) end;
  template = None;
}

abbrev pub field : List ℕ → ConfigField
field name = record { config = codes "Cfg"; name = name; kind = Size }

abbrev pub two_fields : Program
two_fields = record {
  procedures = setter ∷ [];
  fields = field (codes "a") ∷ field (codes "b") ∷ [];
  memories = dram ∷ [];
}

abbrev pub setter_printed : List Printing
setter_printed = printed 0 (codes "f") ∷ []

-- The C declares the first field and not the second, which stays whatever f is run on.
pub record OneOfTwo : Type 0 where
  pub unit : IsUnit two_fields
  pub counted : counts two_fields setter_printed 0 ≡ true
  pub first : declared_in two_fields setter_printed 0 ≡ true
  pub second : declared_in two_fields setter_printed 1 ≡ false
  pub stays :
      (s t : State)
      → run_procedure (program_world two_fields) setter s ≡ Some t
      → t.scene.fields 1 ≡ s.scene.fields 1
