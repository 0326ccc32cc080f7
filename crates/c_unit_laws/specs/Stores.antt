-- Functions that need no store: the C of what allocates nothing is done.
use Rattle.std.specs.Prelude.{◌≡◌, ◌==◌, ℕ, suc, Bool, true, false, not, ◌&&◌, ◌||◌, List, [], ◌∷◌, Option, Some, slice_get}
use Rattle.exo_tree.specs.Tree.{Statement, Assign, Reduce, Config, Pass, If, For, Alloc, View, Call, Block, end, next, Procedure, Program}
use Rattle.exo_meaning.specs.State.{State}
use Rattle.exo_meaning.specs.Run.{program_world}
use Rattle.exo_meaning.specs.Inputs.{IsValid, run_procedure}
use Rattle.exo_meaning.specs.Units.{IsUnit}
use Rattle.exo_modes.specs.Calls.Closed.{closed}
use Rattle.memory_kinds.specs.Faults.{fault_of}
use Rattle.c_unit_laws.specs.Follows.Machine.Machine.{Done, Thing, Machine}
use Rattle.c_unit_laws.specs.Follows.Machine.CRun.{Behaviour, run_file}
use Rattle.c_lowering.specs.Made.LoweredUnit.{Printing, lowered}
use Rattle.c_unit_laws.specs.Follows.Simulation.{Layout}
use Rattle.c_unit_laws.specs.Follows.Templates.{TemplatesDoTheirBodies}
use Rattle.c_unit_laws.specs.Follows.Grounds.{declared_in, naming_of}
use Rattle.c_unit_laws.specs.Follows.Units.{AreLowered, IsSameStart, LeavesTheSame}

abbrev mutual
  pub allocates : Block → Bool
  allocates end = false
  allocates (next a b) = step_allocates a || allocates b

  -- itself, and not what it calls
  pub step_allocates : Statement → Bool
  step_allocates (Assign x is e) = false
  step_allocates (Reduce x is e) = false
  step_allocates (Config f a) = false
  step_allocates Pass = false
  step_allocates (If c a b) = allocates a || allocates b
  step_allocates (For i lo hi b) = allocates b
  step_allocates (Alloc x cell dims memory) = true
  step_allocates (View w x coords) = false
  step_allocates (Call k args) = false

-- of the procedures numbered from k on
abbrev pub none_allocates : (ℕ → Bool) → ℕ → List Procedure → Bool
none_allocates reached k [] = true
none_allocates reached k (p ∷ ps) =
    not (reached k && allocates p.body) && none_allocates reached (suc k) ps

-- neither the procedure of that number allocates, nor what it calls, directly or through others
abbrev pub allocates_nothing : Program → ℕ → Bool
allocates_nothing program k =
    none_allocates (closed (λ p. true) (λ j. j == k) 0 program.procedures) 0 program.procedures

-- From the same valid input a call of a function of the file that allocates nothing is done where
-- its procedure does not fault, and leaves the same.
abbrev pub FilesWithoutAllocationsAreDone : Type 0
FilesWithoutAllocationsAreDone =
    (program : Program) (what : List Printing) (at : ℕ) (w : Printing) (p : Procedure)
    (layout : Layout) (templates : ℕ → Option Behaviour)
    (s t : State) (ts : List Thing) (m : Machine)
    → IsUnit program
    → AreLowered fault_of program what
    → slice_get what at ≡ Some w
    → slice_get program.procedures w.proc ≡ Some p
    → allocates_nothing program w.proc ≡ true
    → TemplatesDoTheirBodies program what templates
    → IsValid (program_world program) p s
    → IsSameStart program what p layout s ts m
    → run_procedure (program_world program) p s ≡ Some t
    → (n : Machine)
    × (run_file (lowered program what) templates at ts m ≡ Done n)
    × LeavesTheSame (naming_of program what p) (declared_in program what) layout s m t n
