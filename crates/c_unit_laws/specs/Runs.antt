-- A closed run of a file: a function copies eight cells by two instructions, through a vector.
use Rattle.std.specs.Prelude.{◌≡◌, ◌==◌, ℕ, ℤ, pos, false, if◌then◌else◌, List, [], ◌∷◌, Option, Some, None, slice_get}
use Rattle.std.specs.Option.{IsSome}
use Rattle.exo_tree.specs.Tree.{I32}
use Rattle.exo_meaning.specs.Value.{Undefined, Number}
use Rattle.exo_meaning.specs.Scene.{whole}
use Rattle.exo_meaning.specs.State.{State}
use Rattle.exo_meaning.specs.Run.{tensor, program_world}
use Rattle.exo_meaning.specs.Inputs.{IsValid, run_procedure}
use Rattle.c_unit_laws.specs.Follows.Machine.Machine.{Done, Thing, IsArray, Object, Machine}
use Rattle.c_unit_laws.specs.Follows.Machine.CRun.{Behaviour, run_file}
use Rattle.c_lowering.specs.Made.LoweredUnit.{lowered}
use Rattle.c_lowering.specs.Made.Examples.{copy8, vector_program}
use Rattle.c_unit_laws.specs.Follows.Simulation.{Layout}
use Rattle.c_unit_laws.specs.Follows.Bodies.{bodies_of}
use Rattle.c_unit_laws.specs.Follows.Templates.{TemplatesDoTheirBodies}
use Rattle.c_unit_laws.specs.Follows.Units.{IsSameStart}
use Rattle.c_unit_laws.specs.Instance.{copy_printed}

-- for x, y, and any other buffer
abbrev pub by_argument : {A : Type 0} → A → A → A → ℕ → A
by_argument a b c x = if x == 6 then a else (if x == 7 then b else c)

abbrev pub eight_long : List ℤ
eight_long = pos 8 ∷ []

-- x holds sevens, and y zeros
abbrev pub input : State
input =
    let buffer = Some (tensor I32 eight_long) in
    let seen = λ (x : ℕ). Some (record { buffer = x; sides = whole eight_long }) in
    record {
      scene = record {
        control = λ x. pos 0;
        buffers = by_argument buffer buffer None;
        views = λ x. by_argument (seen x) (seen x) None x;
        fields = λ f. pos 0;
      };
      cells = λ b at. by_argument (Number (pos 7)) (Number (pos 0)) Undefined b;
    }

-- in two objects
abbrev pub layout : Layout
layout b = record { object = by_argument 0 1 1 b; offset = pos 0 }

abbrev pub object : Object
object = record { cell = I32; size = pos 8; heap = false }

abbrev pub by_object : {A : Type 0} → A → A → A → ℕ → A
by_object a b c o = if o == 0 then a else (if o == 1 then b else c)

abbrev pub machine : Machine
machine = record {
  setting = record {
    names = λ x. None;
    objects = by_object (Some object) (Some object) None;
    free = 2;
    fields = λ x. pos 0;
  };
  contents = λ o k. by_object (Number (pos 7)) (Number (pos 0)) Undefined o;
}

abbrev pub things : List Thing
things = IsArray (layout 6) ∷ IsArray (layout 7) ∷ []

abbrev pub templates : ℕ → Option Behaviour
templates = slice_get (bodies_of vector_program copy_printed)

-- The call meets what the law on files asks, and ends with what x held in the last cell of y.
pub record VectorsRun : Type 0 where
  pub does : TemplatesDoTheirBodies vector_program copy_printed templates
  pub valid : IsValid (program_world vector_program) copy8 input
  pub start : IsSameStart vector_program copy_printed copy8 layout input things machine
  pub runs : IsSome (run_procedure (program_world vector_program) copy8 input)
  pub done :
      (n : Machine)
      × (run_file (lowered vector_program copy_printed) templates 0 things machine ≡ Done n)
      × (n.contents 1 (pos 7) ≡ Number (pos 7))
