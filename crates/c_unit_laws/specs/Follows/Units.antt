-- The C of printed procedures does what they do: what is to be shown of whole files.
use Rattle.std.specs.Prelude.{◌≡◌, ◌<◌, ◌^◌, ℕ, ℤ, nat_lt, true, List, length, Option, Some, None, slice_get}
use Rattle.exo_tree.specs.Tree.{Procedure, Program}
use Rattle.exo_tree.specs.Calls.{calls}
use Rattle.exo_meaning.specs.Value.{IsRefinedBy}
use Rattle.exo_meaning.specs.Scene.{Shape}
use Rattle.exo_meaning.specs.State.{State}
use Rattle.exo_meaning.specs.Run.{program_world}
use Rattle.exo_meaning.specs.Inputs.{IsValid, run_procedure}
use Rattle.exo_meaning.specs.Units.{IsUnit}
use Rattle.c_tree.specs.Names.Clash.{first_clash}
use Rattle.c_widths.specs.Raises.{widest}
use Rattle.c_widths.specs.Few.{fewness_of}
use Rattle.c_unit_laws.specs.Follows.Machine.Machine.{Outcome, Done, Fault, Thing, Machine}
use Rattle.c_unit_laws.specs.Follows.Machine.CRun.{Behaviour, run_file}
use Rattle.c_lowering.specs.Made.Lowered.{Naming}
use Rattle.c_lowering.specs.Made.LoweredUnit.{Printing, is_listed, counts, global_names, lowered}
use Rattle.c_unit_laws.specs.Follows.Simulation.{Declared, Layout, IsOutside, in_range, spot_of}
use Rattle.c_unit_laws.specs.Follows.SameInput.{AreSame, AreSeparate}
use Rattle.c_unit_laws.specs.Follows.Grounds.{declared_in, naming_of}
use Rattle.c_unit_laws.specs.Follows.Templates.{TemplatesDoTheirBodies}

-- What is printed: functions in the order of the unit, with all functions that they call.
pub record IsListing (program : Program) (what : List Printing) : Type 0 where
  pub there :
      (i : ℕ) (w : Printing)
      → slice_get what i ≡ Some w
      → (p : Procedure) × (slice_get program.procedures w.proc ≡ Some p) × (p.template ≡ None)
  pub ascends :
      (i j : ℕ) (w v : Printing)
      → slice_get what i ≡ Some w
      → slice_get what j ≡ Some v
      → i < j
      → w.proc < v.proc
  pub closed :
      (i j : ℕ) (w : Printing) (p q : Procedure)
      → slice_get what i ≡ Some w
      → slice_get program.procedures w.proc ≡ Some p
      → slice_get program.procedures j ≡ Some q
      → calls j p.body ≡ true
      → q.template ≡ None
      → is_listed what j ≡ true

-- One input for a procedure and for a call of its function: the things that it is called with are the arguments, and
-- each field that the C declares has the same number. Different arguments share no cell.
pub record IsSameStart (program : Program) (what : List Printing) (p : Procedure) (layout : Layout)
    (s : State) (ts : List Thing) (m : Machine) : Type 0 where
  pub arguments : AreSame layout s m p.params ts
  pub fields :
      (f : ℕ)
      → declared_in program what f ≡ true
      → m.setting.fields ((naming_of program what p).field f) ≡ s.scene.fields f
  pub separate : AreSeparate layout s

-- What the C leaves, against what the procedure leaves: each cell of an argument that the procedure leaves defined is
-- the same, cells that are in no argument are as before, and each field that the C declares is the same.
pub record LeavesTheSame (naming : Naming) (declared : Declared) (layout : Layout)
    (s : State) (m : Machine) (t : State) (n : Machine) : Type 0 where
  pub cells :
      (b : ℕ) (shape : Shape)
      → s.scene.buffers b ≡ Some shape
      → (at : List ℤ)
      → in_range at shape.dims ≡ true
      → let spot = spot_of layout b shape at in
      IsRefinedBy (t.cells b at) (n.contents spot.object spot.offset)
  pub outside :
      (o : ℕ) (k : ℤ)
      → nat_lt o m.setting.free ≡ true
      → IsOutside (λ b. true) layout s o k
      → n.contents o k ≡ m.contents o k
  pub fields : (f : ℕ) → declared f ≡ true → n.setting.fields (naming.field f) ≡ t.scene.fields f

-- A run of the C ends well: it does not fault, where it is done it leaves what it is to leave, and where no allocation
-- is large it finds store for all of them, and so it is done.
pub record EndsWell (Few : Type 0) (Leaves : Machine → Type 0) (o : Outcome Machine) : Type 0 where
  pub no_fault : o ≡ Fault → ⊥
  pub leaves : (n : Machine) → o ≡ Done n → Leaves n
  pub done : Few → (n : Machine) × (o ≡ Done n)

-- Memory_fault: the first rule on memories that a procedure breaks.
module _ {A : Type 0} (memory_fault : Program → ℕ → Option A) where
  -- The listed procedures have a C: they keep the rules on memories, all numbers fit, and C keeps all names.
  pub record AreLowered (program : Program) (what : List Printing) : Type 0 where
    pub listing : IsListing program what
    pub memories : (k : ℕ) → is_listed what k ≡ true → memory_fault program k ≡ None
    pub narrow : widest program (is_listed what) (counts program what) ≡ None
    pub named : first_clash (global_names program what) ≡ None
    pub few : length what < 2 ^ 31

  -- From the same valid input a call of the C of a listed procedure ends well where the procedure does not fault: it
  -- leaves the same, and it is done where no allocation of the run passes 2 ^ 48 cells.
  abbrev pub UnitsFollow : Type 0
  UnitsFollow =
      (program : Program) (what : List Printing) (at : ℕ) (w : Printing) (p : Procedure) (layout : Layout)
      (templates : ℕ → Option Behaviour) (s t : State) (ts : List Thing) (m : Machine)
      → IsUnit program
      → AreLowered program what
      → slice_get what at ≡ Some w
      → slice_get program.procedures w.proc ≡ Some p
      → TemplatesDoTheirBodies program what templates
      → IsValid (program_world program) p s
      → IsSameStart program what p layout s ts m
      → run_procedure (program_world program) p s ≡ Some t
      → EndsWell (fewness_of program w.proc s)
      (LeavesTheSame (naming_of program what p) (declared_in program what) layout s m t)
      (run_file (lowered program what) templates at ts m)
