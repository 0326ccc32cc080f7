-- What the C of a procedure stands on in its file.
use Rattle.std.specs.Prelude.{ℕ, nat_lt, Bool, ◌&&◌, List, length, take, Option, Some, None}
use Rattle.std.specs.Prelude.{slice_get}
use Rattle.exo_tree.specs.Tree.{Procedure, Program}
use Rattle.exo_tree.specs.Calls.{calls}
use Rattle.exo_meaning.specs.Run.{World, writes, unit_world, kinds_of}
use Rattle.c_tree.specs.Names.Words.{Name, is_in}
use Rattle.c_tree.specs.Names.Binders.{c_names}
use Rattle.c_widths.specs.Raises.{most_at}
use Rattle.c_lowering.specs.Made.Lowered.{Naming}
use Rattle.c_lowering.specs.Made.LoweredUnit.{Printing, counts, is_used, naming_in, printed_names}
use Rattle.c_lowering.specs.Made.LoweredUnit.{global_names}
use Rattle.c_unit_laws.specs.Follows.Simulation.{Declared, Ground}
use Rattle.c_unit_laws.specs.Follows.Bodies.{plain_in}

-- the fields of the unit that the printed procedures, their instructions and what these call use:
-- the C declares them
abbrev pub declared_in : Program → List Printing → Declared
declared_in program what f = is_used program what f && nat_lt f (length program.fields)

-- the names of a printed procedure's binders and fields in the C
abbrev pub naming_of : Program → List Printing → Procedure → Naming
naming_of program what p = naming_in program (c_names (global_names program what) p)

-- the procedures before that one
abbrev pub world_above : Program → ℕ → World
world_above program k = unit_world (kinds_of program.fields) (take k program.procedures)

abbrev pub function_in : Program → List Printing → Name → Bool
function_in program what = is_in (printed_names program what)

abbrev pub bounds_by : Program → (ℕ → Bool) → ℕ → Option Procedure → ℕ → ℕ
bounds_by program counted k None x = 0
bounds_by program counted k (Some p) x = most_at program.procedures counted k p x

-- how large the names of that procedure may be, its parameters by what its callers give
abbrev pub bounds_in : Program → List Printing → ℕ → ℕ → ℕ
bounds_in program what k =
    bounds_by program (counts program what) k (slice_get program.procedures k)

-- the procedure of that number, by its names in the C
abbrev pub ground_of : Program → List Printing → Naming → ℕ → Procedure → Ground
ground_of program what naming k p = record {
  naming = naming;
  declared = declared_in program what;
  function = function_in program what;
  stored = writes (world_above program k) (λ x. x) p.body;
  called = λ j. calls j p.body;
  bounds = bounds_in program what;
}

-- as a function of the file: memories have their lanes, and instructions their templates
abbrev pub printed_ground : Program → List Printing → ℕ → Procedure → Ground
printed_ground program what k p = ground_of program what (naming_of program what p) k p

-- as the body of an instruction, or of what an instruction calls: there are cells alone
abbrev pub plain_naming : Program → List Printing → Procedure → Naming
plain_naming program what p = plain_in program (c_names (global_names program what) p)

abbrev pub plain_ground : Program → List Printing → ℕ → Procedure → Ground
plain_ground program what k p = ground_of program what (plain_naming program what p) k p
