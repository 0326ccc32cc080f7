-- The first example, from a text's procedure to what a call of its C leaves.
use Rattle.std.specs.Prelude.{◌≡◌, ◌==◌, ℕ, ℤ, pos, true, false, if◌then◌else◌, List, [], ◌∷◌, map}
use Rattle.std.specs.Prelude.{codes, Some, None}
use Rattle.std.specs.Option.{IsSome}
use Rattle.exo_tree.specs.Tree.{I32, Lit, Const, Read, Plus, Assign, end, next, Control}
use Rattle.exo_tree.specs.Tree.{TensorParam, Procedure, Program}
use Rattle.exo_meaning.specs.Value.{Value, Undefined, Number}
use Rattle.exo_meaning.specs.Scene.{whole}
use Rattle.exo_meaning.specs.State.{State}
use Rattle.exo_meaning.specs.Run.{tensor, program_world}
use Rattle.exo_meaning.specs.Inputs.{IsValid, run_procedure}
use Rattle.exo_meaning.specs.Units.{IsUnit}
use Rattle.memory_kinds.specs.Faults.{fault_of}
use Rattle.c_unit_laws.specs.Follows.Machine.Machine.{Done, Thing, IsArray, Object, Machine}
use Rattle.c_unit_laws.specs.Follows.Machine.CRun.{run_file}
use Rattle.c_lowering.specs.Made.LoweredUnit.{Printing, lowered}
use Rattle.c_lowering.specs.Made.Examples.{param, printed, dram}
use Rattle.c_unit_laws.specs.Follows.Templates.{TemplatesDoTheirBodies}
use Rattle.c_unit_laws.specs.Follows.Units.{AreLowered, IsSameStart}
use Rattle.c_unit_laws.specs.Stores.{allocates_nothing}
use Rattle.c_unit_laws.specs.Follows.Machine.Examples.{no_templates}
use Rattle.c_unit_laws.specs.Follows.Simulation.{Layout}

abbrev pub four : List Control
four = Lit (pos 4) ∷ []

-- def add3(x: i32[4], y: i32[4]): x[0] = 3 + y[1]
abbrev pub add3 : Procedure
add3 = record {
  name = codes "add3";
  params = param 0 (codes "x") (TensorParam I32 four 0) ∷ param 1 (codes "y") (TensorParam I32 four 0) ∷ [];
  asserts = [];
  body = next (Assign 0 (Lit (pos 0) ∷ []) (Plus (Const (pos 3)) (Read 1 (Lit (pos 1) ∷ [])))) end;
  template = None;
}

abbrev pub add3_program : Program
add3_program = record { procedures = add3 ∷ []; fields = []; memories = dram ∷ [] }

abbrev pub add3_printed : List Printing
add3_printed = printed 0 (codes "add3") ∷ []

-- for x, y, and any other buffer
abbrev pub by_argument : {A : Type 0} → A → A → A → ℕ → A
by_argument a b c x = if x == 0 then a else (if x == 1 then b else c)

abbrev pub four_long : List ℤ
four_long = pos 4 ∷ []

-- x holds zeros, and y sevens
abbrev pub input : State
input =
    let buffer = Some (tensor I32 four_long) in
    let seen = λ (x : ℕ). Some (record { buffer = x; sides = whole four_long }) in
    record {
      scene = record {
        control = λ x. pos 0;
        buffers = by_argument buffer buffer None;
        views = λ x. by_argument (seen x) (seen x) None x;
        fields = λ f. pos 0;
      };
      cells = λ b at. by_argument (Number (pos 0)) (Number (pos 7)) Undefined b;
    }

-- in two objects
abbrev pub layout : Layout
layout b = record { object = by_argument 0 1 1 b; offset = pos 0 }

abbrev pub object : Object
object = record { cell = I32; size = pos 4; heap = false }

abbrev pub machine : Machine
machine = record {
  setting = record {
    names = λ x. None;
    objects = by_argument (Some object) (Some object) None;
    free = 2;
    fields = λ x. pos 0;
  };
  contents = λ o k. by_argument (Number (pos 0)) (Number (pos 7)) Undefined o;
}

abbrev pub things : List Thing
things = IsArray (layout 0) ∷ IsArray (layout 1) ∷ []

-- what the four cells of an object hold
abbrev pub four_cells : Machine → ℕ → List Value
four_cells m o = map (m.contents o) (pos 0 ∷ pos 1 ∷ pos 2 ∷ pos 3 ∷ [])

-- The call meets what the laws on files ask, and leaves 10 in the first cell of x.
pub record Add3Runs : Type 0 where
  pub unit : IsUnit add3_program
  pub lowered_is : AreLowered fault_of add3_program add3_printed
  pub none : allocates_nothing add3_program 0 ≡ true
  pub does : TemplatesDoTheirBodies add3_program add3_printed no_templates
  pub valid : IsValid (program_world add3_program) add3 input
  pub start : IsSameStart add3_program add3_printed add3 layout input things machine
  pub runs : IsSome (run_procedure (program_world add3_program) add3 input)
  pub done :
      (n : Machine)
      × (run_file (lowered add3_program add3_printed) no_templates 0 things machine ≡ Done n)
      × (four_cells n 0 ≡ Number (pos 10) ∷ Number (pos 0) ∷ Number (pos 0) ∷ Number (pos 0) ∷ [])
      × (four_cells n 1 ≡ Number (pos 7) ∷ Number (pos 7) ∷ Number (pos 7) ∷ Number (pos 7) ∷ [])
