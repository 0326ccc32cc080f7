-- A call from outside that hands a function a column: two cells of an object of four, two steps
-- apart.
use Rattle.std.specs.Prelude.{◌≡◌, ◌==◌, pos, true, if◌then◌else◌, List, [], ◌∷◌, map, Some, None}
use Rattle.std.specs.Option.{IsSome}
use Rattle.exo_tree.specs.Tree.{I32}
use Rattle.exo_meaning.specs.Value.{Undefined, Number}
use Rattle.exo_meaning.specs.Scene.{Shape, whole}
use Rattle.exo_meaning.specs.State.{State}
use Rattle.exo_meaning.specs.Run.{program_world}
use Rattle.exo_meaning.specs.Inputs.{IsValid, run_procedure}
use Rattle.c_unit_laws.specs.Follows.Machine.Machine.{Done, Thing, IsNumber, IsWindow, Machine}
use Rattle.c_unit_laws.specs.Follows.Machine.CRun.{run_file}
use Rattle.c_lowering.specs.Made.LoweredUnit.{lowered}
use Rattle.c_lowering.specs.Made.Examples.{fill}
use Rattle.c_unit_laws.specs.Follows.Simulation.{Layout}
use Rattle.c_unit_laws.specs.Follows.Templates.{TemplatesDoTheirBodies}
use Rattle.c_unit_laws.specs.Follows.Units.{IsSameStart}
use Rattle.c_unit_laws.specs.Instance.{column_program, both_printed}
use Rattle.c_unit_laws.specs.Stores.{allocates_nothing}
use Rattle.c_unit_laws.specs.ColumnRun.{machine}
use Rattle.c_unit_laws.specs.Follows.Machine.Examples.{no_templates}

-- two cells, two steps apart
abbrev pub column : Shape
column = record { cell = I32; dims = pos 2 ∷ []; strides = pos 2 ∷ [] }

-- n is 2, and w is two zeros
abbrev pub input : State
input = record {
  scene = record {
    control = λ x. if x == 0 then pos 2 else pos 0;
    buffers = λ b. if b == 1 then Some column else None;
    views = λ x. if x == 1 then Some (record { buffer = x; sides = whole (pos 2 ∷ []) }) else None;
    fields = λ f. pos 0;
  };
  cells = λ b at. if b == 1 then Number (pos 0) else Undefined;
}

-- from the second cell of the object on
abbrev pub layout : Layout
layout b = record { object = 0; offset = pos 1 }

abbrev pub things : List Thing
things = IsNumber (pos 2) ∷ IsWindow (layout 1) (pos 2 ∷ []) ∷ []

-- The call meets what the laws on files ask, and leaves fives in the column alone.
pub record FilledColumn : Type 0 where
  pub none : allocates_nothing column_program 0 ≡ true
  pub does : TemplatesDoTheirBodies column_program both_printed no_templates
  pub valid : IsValid (program_world column_program) fill input
  pub start : IsSameStart column_program both_printed fill layout input things machine
  pub runs : IsSome (run_procedure (program_world column_program) fill input)
  pub done :
      (n : Machine)
      × (run_file (lowered column_program both_printed) no_templates 0 things machine ≡ Done n)
      × (map (n.contents 0) (pos 0 ∷ pos 1 ∷ pos 2 ∷ pos 3 ∷ [])
      ≡ Number (pos 0) ∷ Number (pos 5) ∷ Number (pos 0) ∷ Number (pos 5) ∷ [])
