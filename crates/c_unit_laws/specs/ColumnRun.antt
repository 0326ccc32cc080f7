-- A closed run of a file: a function hands a column of a tensor on to another one, which fills it.
use Rattle.std.specs.Prelude.{◌≡◌, ◌==◌, ◌||◌, ℤ, pos, true, if◌then◌else◌, List, [], ◌∷◌}
use Rattle.std.specs.Prelude.{ℕ, false, map, Some, None}
use Rattle.std.specs.Option.{IsSome}
use Rattle.exo_tree.specs.Tree.{I32, Program}
use Rattle.exo_meaning.specs.Value.{Undefined, Number}
use Rattle.exo_meaning.specs.Scene.{whole}
use Rattle.exo_meaning.specs.State.{State}
use Rattle.exo_meaning.specs.Run.{tensor, program_world}
use Rattle.exo_meaning.specs.Inputs.{IsValid, run_procedure}
use Rattle.c_unit_laws.specs.Follows.Machine.Machine.{Done, Thing, IsNumber, IsArray, Machine}
use Rattle.c_unit_laws.specs.Follows.Machine.CRun.{run_file}
use Rattle.c_lowering.specs.Made.LoweredUnit.{lowered}
use Rattle.c_lowering.specs.Made.Examples.{printed, col, vector_program}
use Rattle.c_unit_laws.specs.Follows.Templates.{TemplatesDoTheirBodies}
use Rattle.c_unit_laws.specs.Follows.Units.{IsSameStart}
use Rattle.c_unit_laws.specs.Stores.{allocates_nothing}
use Rattle.c_unit_laws.specs.Listings.{printings}
use Rattle.c_unit_laws.specs.Instance.{filling, column_program, both_printed}
use Rattle.c_unit_laws.specs.Follows.Machine.Examples.{no_templates}
use Rattle.c_unit_laws.specs.Follows.Instance.{layout}

abbrev pub two_by_two : List ℤ
two_by_two = pos 2 ∷ pos 2 ∷ []

-- M and N are 2, and A is 2 by 2 zeros
abbrev pub input : State
input = record {
  scene = record {
    control = λ x. if (x == 3) || (x == 4) then pos 2 else pos 0;
    buffers = λ b. if b == 5 then Some (tensor I32 two_by_two) else None;
    views = λ x. if x == 5 then Some (record { buffer = x; sides = whole two_by_two }) else None;
    fields = λ f. pos 0;
  };
  cells = λ b at. if b == 5 then Number (pos 0) else Undefined;
}

abbrev pub machine : Machine
machine = record {
  setting = record {
    names = λ x. None;
    objects =
        λ o. if o == 0 then Some (record { cell = I32; size = pos 4; heap = false }) else None;
    free = 1;
    fields = λ x. pos 0;
  };
  contents = λ o k. if o == 0 then Number (pos 0) else Undefined;
}

abbrev pub things : List Thing
things = IsNumber (pos 2) ∷ IsNumber (pos 2) ∷ IsArray (layout 5) ∷ []

-- The call meets what the law on files asks, and ends with fives in the last column alone.
pub record ColumnsRun : Type 0 where
  pub none : allocates_nothing column_program 1 ≡ true
  pub does : TemplatesDoTheirBodies column_program both_printed no_templates
  pub valid : IsValid (program_world column_program) (col filling) input
  pub start :
      IsSameStart column_program both_printed (col filling) layout input things machine
  pub runs : IsSome (run_procedure (program_world column_program) (col filling) input)
  pub done :
      (n : Machine)
      × (run_file (lowered column_program both_printed) no_templates 1 things machine ≡ Done n)
      × (map (λ k. n.contents 0 k) (pos 0 ∷ pos 1 ∷ pos 2 ∷ pos 3 ∷ [])
      ≡ Number (pos 0) ∷ Number (pos 5) ∷ Number (pos 0) ∷ Number (pos 5) ∷ [])

-- the numbers of what is printed where the procedure of that number is emitted
abbrev pub printed_with : Program → ℕ → List ℕ
printed_with program last =
    map (λ w. w.proc) (printings program (λ k. k == last) (λ k. printed k []))

-- A function that is called is printed, and no instruction.
pub record PrintingsAreComputed : Type 0 where
  pub columns : printed_with column_program 1 ≡ 0 ∷ 1 ∷ []
  pub vectors : printed_with vector_program 2 ≡ 2 ∷ []
