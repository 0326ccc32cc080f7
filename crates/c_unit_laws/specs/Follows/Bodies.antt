-- What the bodies of procedures do in the C, in place.
use Rattle.std.specs.Prelude.{ℕ, List, [], Option, Some, None, slice_get}
use Rattle.exo_tree.specs.Tree.{Binder, Procedure, Program}
use Rattle.c_tree.specs.Names.Words.{Name}
use Rattle.c_tree.specs.Names.Binders.{c_names}
use Rattle.exo_modes.specs.Calls.Tabled.{tabled}
use Rattle.c_unit_laws.specs.Follows.Machine.Machine.{Thing}
use Rattle.c_unit_laws.specs.Follows.Machine.CRun.{Behaviour, run_c, globals_of}
use Rattle.c_lowering.specs.Made.Lowered.{Routine, Naming, param_forms, block_of}
use Rattle.c_lowering.specs.Made.LoweredUnit.{Printing, memory_of, routine_of, naming_in}
use Rattle.c_lowering.specs.Made.LoweredUnit.{formals_of}
use Rattle.c_lowering.specs.Made.LoweredUnit.{global_names, lowered}

-- in place of a template
abbrev pub as_template : Routine → Routine
as_template r = record r { template = Some [] }

-- inside an instruction there are plain cells alone, and each call is done in place, by its number
abbrev pub plain_in : Program → List Binder → Naming
plain_in program table = record (naming_in program table) {
  memory = λ m. memory_of None;
  routine = λ k. as_template (routine_of (slice_get program.procedures k));
}

-- what a body does among the names of a file, by what those above it do
abbrev pub body_of :
    Program → List Name → (Name → Option Thing) → List Behaviour → Procedure → Behaviour
body_of program names globals above p =
    let naming = plain_in program (c_names names p) in
    record {
      formals = formals_of naming p.params;
      run =
          run_c
          (record { globals = globals; functions = λ f. None; instructions = slice_get above })
          (block_of naming (param_forms p.params) p.body);
    }

-- what the bodies of all procedures do, in place; by number
abbrev pub bodies_of : Program → List Printing → List Behaviour
bodies_of program what =
    tabled (body_of program (global_names program what) (globals_of (lowered program what)))
    [] program.procedures
