-- A call from outside whose arguments lie in one array of four cells: a tensor in its first two,
-- and a window of the other two.
use Rattle.std.specs.Prelude.{◌≡◌, ◌==◌, ℕ, ℤ, pos, int_lt, true, if◌then◌else◌, List, []}
use Rattle.std.specs.Prelude.{◌∷◌, map, codes, Some, None}
use Rattle.std.specs.Option.{IsSome}
use Rattle.exo_tree.specs.Tree.{I32, Lit, Read, Assign, end, next, Control}
use Rattle.exo_tree.specs.Tree.{TensorParam, WindowParam, Procedure, Program}
use Rattle.exo_meaning.specs.Value.{Undefined, Number}
use Rattle.exo_meaning.specs.Scene.{whole}
use Rattle.exo_meaning.specs.State.{State}
use Rattle.exo_meaning.specs.Run.{tensor, program_world}
use Rattle.exo_meaning.specs.Inputs.{IsValid, run_procedure}
use Rattle.exo_meaning.specs.Units.{IsUnit}
use Rattle.memory_kinds.specs.Faults.{fault_of}
use Rattle.c_unit_laws.specs.Follows.Machine.Machine.{Done, Thing, IsArray, IsWindow}
use Rattle.c_unit_laws.specs.Follows.Machine.Machine.{Machine}
use Rattle.c_unit_laws.specs.Follows.Machine.CRun.{run_file}
use Rattle.c_lowering.specs.Made.LoweredUnit.{Printing, lowered}
use Rattle.c_lowering.specs.Made.Examples.{param, printed, dram}
use Rattle.c_unit_laws.specs.Follows.Simulation.{Layout}
use Rattle.c_unit_laws.specs.Follows.Templates.{TemplatesDoTheirBodies}
use Rattle.c_unit_laws.specs.Follows.Units.{AreLowered, IsSameStart}
use Rattle.c_unit_laws.specs.Stores.{allocates_nothing}
use Rattle.c_unit_laws.specs.ClosedRuns.Add3.{by_argument, object}
use Rattle.c_unit_laws.specs.Follows.Machine.Examples.{no_templates}

abbrev pub two : List Control
two = Lit (pos 2) ∷ []

-- def put(w: [i32][2], x: i32[2]): w[1] = x[0]
abbrev pub put : Procedure
put = record {
  name = codes "put";
  params =
      param 0 (codes "w") (WindowParam I32 two 0)
      ∷ param 1 (codes "x") (TensorParam I32 two 0)
      ∷ [];
  asserts = [];
  body = next (Assign 0 (Lit (pos 1) ∷ []) (Read 1 (Lit (pos 0) ∷ []))) end;
  template = None;
}

abbrev pub put_program : Program
put_program = record { procedures = put ∷ []; fields = []; memories = dram ∷ [] }

abbrev pub put_printed : List Printing
put_printed = printed 0 (codes "put") ∷ []

-- for w, x, and any other buffer
abbrev pub two_long : List ℤ
two_long = pos 2 ∷ []

-- w holds zeros, and x sevens
abbrev pub input : State
input =
    let buffer = Some (tensor I32 two_long) in
    let seen = λ (x : ℕ). Some (record { buffer = x; sides = whole two_long }) in
    record {
      scene = record {
        control = λ x. pos 0;
        buffers = by_argument buffer buffer None;
        views = λ x. by_argument (seen x) (seen x) None x;
        fields = λ f. pos 0;
      };
      cells = λ b at. by_argument (Number (pos 0)) (Number (pos 7)) Undefined b;
    }

-- w begins at the third cell, and x at the first
abbrev pub layout : Layout
layout b = record { object = 0; offset = if b == 0 then pos 2 else pos 0 }

abbrev pub machine : Machine
machine = record {
  setting = record {
    names = λ x. None;
    objects = λ o. if o == 0 then Some object else None;
    free = 1;
    fields = λ x. pos 0;
  };
  contents = λ o k. if int_lt k (pos 2) then Number (pos 7) else Number (pos 0);
}

abbrev pub things : List Thing
things = IsWindow (layout 0) (pos 1 ∷ []) ∷ IsArray (layout 1) ∷ []

-- The call meets what the laws on files ask, and leaves a seven in the last cell.
pub record SharedArray : Type 0 where
  pub unit : IsUnit put_program
  pub lowered_is : AreLowered fault_of put_program put_printed
  pub none : allocates_nothing put_program 0 ≡ true
  pub does : TemplatesDoTheirBodies put_program put_printed no_templates
  pub valid : IsValid (program_world put_program) put input
  pub start : IsSameStart put_program put_printed put layout input things machine
  pub runs : IsSome (run_procedure (program_world put_program) put input)
  pub done :
      (n : Machine)
      × (run_file (lowered put_program put_printed) no_templates 0 things machine ≡ Done n)
      × (map (n.contents 0) (pos 0 ∷ pos 1 ∷ pos 2 ∷ pos 3 ∷ [])
      ≡ Number (pos 7) ∷ Number (pos 7) ∷ Number (pos 0) ∷ Number (pos 7) ∷ [])
