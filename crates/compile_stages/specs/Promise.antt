-- What is promised of the versions that a schedule makes, and of the C that is printed for them.
use Rattle.std.specs.Prelude.{◌≡◌, ℕ, ℤ, true, false, nat_lt, List, [], Option, Some, None}
use Rattle.std.specs.Prelude.{slice_get, Contains}
use Rattle.exo_tree.specs.Tree.{Procedure, Program}
use Rattle.exo_meaning.specs.Value.{IsRefinedBy}
use Rattle.exo_meaning.specs.Scene.{Shape}
use Rattle.exo_meaning.specs.State.{State}
use Rattle.exo_meaning.specs.Run.{program_world}
use Rattle.exo_meaning.specs.Inputs.{IsValid, Refines, run_procedure}
use Rattle.exo_meaning.specs.Units.{IsUnit}
use Rattle.meaning_laws.specs.Chain.{HasHead}
use Rattle.config_laws.specs.Differing.{is_descendant}
use Rattle.unit_check.specs.Checked.{Shown, checked}
use Rattle.unit_check.specs.Faults.{NothingFaults}
use Rattle.text_phrases.specs.Text.{IsText}
use Rattle.exo_reader.specs.Source.{Item}
use Rattle.exo_reader.specs.Items.{unit}
use Rattle.exo_reader.specs.Texts.{tokens_of}
use Rattle.exo_types.specs.UnitRules.{unit_fault, unit_of}
use Rattle.c_widths.specs.Few.{fewness_of}
use Rattle.c_tree.specs.CText.{text_of}
use Rattle.c_unit_laws.specs.Follows.Machine.CRun.{Behaviour, run_file}
use Rattle.c_unit_laws.specs.Follows.Machine.Machine.{Outcome, Done, Thing, Machine}
use Rattle.c_lowering.specs.Made.Lowered.{Naming}
use Rattle.c_lowering.specs.Made.LoweredUnit.{Printing, lowered}
use Rattle.c_printer.specs.Refusals.{too_wide, name_clash}
use Rattle.c_unit_laws.specs.Follows.Simulation.{Declared, Layout, IsOutside, in_range, spot_of}
use Rattle.c_unit_laws.specs.Follows.Templates.{TemplatesDoTheirBodies}
use Rattle.c_unit_laws.specs.Follows.Grounds.{naming_of, declared_in}
use Rattle.c_unit_laws.specs.Follows.Units.{IsListing, IsSameStart, EndsWell}
use Rattle.c_unit_laws.specs.Stores.{allocates_nothing}
use Rattle.schedule_text.specs.Tree as tree
use Rattle.schedule_text.specs.Grammar.{schedule as schedule_text}
use Rattle.schedule_laws.specs.Versions.Versions.{Versions, started, version_at}
use Rattle.schedule_laws.specs.Versions.Lines.{Done as Ran}
use Rattle.schedule_run.specs.Runs.{LinesRun}
use Rattle.compile_stages.specs.Printings.{differing_from, printings_of}
use Rattle.compile_stages.specs.Printings.{memory_fault}

-- ---- versions

-- What stands behind a schedule that runs: the unit that the text spells, which keeps all rules and
-- shows what its procedures owe; the lines of the schedule; and the versions that these make,
-- behind the procedures of the text. No admissible input makes any of them fault.
pub record AreMade (bytes schedule : List ℕ) (items : List Item) (v : Versions) : Type 0 where
  pub count : ℕ
  pub lines : List tree.Line
  pub spelled : IsText unit (tokens_of bytes) items
  pub keeps : unit_fault items ≡ None
  pub shown : checked (unit_of items) ≡ Shown count
  pub formed : IsUnit (unit_of items)
  pub no_fault : NothingFaults (unit_of items)
  pub read : IsText schedule_text (tokens_of schedule) lines
  pub ran : LinesRun 0 lines (started (unit_of items) count) (Ran v)
  pub all_formed : IsUnit v.unit
  pub none_faults : NothingFaults v.unit

-- The version of that number comes from a procedure of the text, in any number of steps: it takes
-- the same inputs, and on each that is admissible it leaves what that leaves, but for cells that
-- that leaves undefined, and for the fields that may differ.
pub record ComesFrom (text : Program) (v : Versions) (k : ℕ) (p q : Procedure) : Type 0 where
  pub from : ℕ
  pub in_text : slice_get text.procedures from ≡ Some p
  pub first : version_at v from ≡ Some p
  pub there : version_at v k ≡ Some q
  pub derives : is_descendant v.origins k from ≡ true
  pub head : HasHead p q
  pub refines : Refines (program_world v.unit) p q (differing_from v k from)

-- ---- what the C of a version does

-- What the C leaves, against what the procedure of the text leaves: each cell of an argument that
-- the procedure leaves defined is the same, every cell outside the arguments is as it was, and each
-- field, but those that may differ, has its number where the C declares it, and else the number that
-- it had before.
pub record LeavesSo (naming : Naming) (declared : Declared) (but : List ℕ) (layout : Layout)
    (s : State) (m : Machine) (t : State) (n : Machine) : Type 0 where
  pub cells :
      (b : ℕ) (shape : Shape)
      → s.scene.buffers b ≡ Some shape
      → (at : List ℤ)
      → in_range at shape.dims ≡ true
      → let spot = spot_of layout b shape at in
      IsRefinedBy (t.cells b at) (n.contents spot.object spot.offset)
  pub outside :
      (o : ℕ) (k : ℤ)
      → nat_lt o m.setting.free ≡ true
      → IsOutside (λ b. true) layout s o k
      → n.contents o k ≡ m.contents o k
  pub fields :
      (f : ℕ)
      → declared f ≡ true
      → (Contains but f → ⊥)
      → n.setting.fields (naming.field f) ≡ t.scene.fields f
  pub untouched :
      (f : ℕ)
      → declared f ≡ false
      → (Contains but f → ⊥)
      → t.scene.fields f ≡ s.scene.fields f

-- A run of the C is done, and leaves what it is to leave.
abbrev pub IsDoneWith : (Machine → Type 0) → Outcome Machine → Type 0
IsDoneWith Leaves o = (n : Machine) × (o ≡ Done n) × Leaves n

-- The C function at that place of the file, printed for the version q, which has that number, does
-- what the procedure p of the text does, but for these fields. Let the template of each instruction
-- that is called do what its body says. On each valid input of p, and each call of the function
-- with the same input, p does not fault, nor does the C. Where the C is done, it leaves what p
-- leaves. It is done where no allocation of the run passes 2 ^ 48 cells, and where neither the
-- function nor what it calls allocates.
abbrev pub DoesWhat :
    Program → Program → List Printing → ℕ → ℕ → List ℕ → Procedure → Procedure → Type 0
DoesWhat text program what at number but p q =
    (templates : ℕ → Option Behaviour) (layout : Layout)
    (s : State) (things : List Thing) (m : Machine)
    → TemplatesDoTheirBodies program what templates
    → IsValid (program_world text) p s
    → IsSameStart program what q layout s things m
    → (t : State)
    × (run_procedure (program_world text) p s ≡ Some t)
    × (let leaves =
    LeavesSo (naming_of program what q) (declared_in program what) but layout s m t in
    let end = run_file (lowered program what) templates at things m in
    EndsWell (fewness_of program number s) leaves end
    × (allocates_nothing program number ≡ true → IsDoneWith leaves end))

-- The version of that number is printed: it comes from a procedure of the text, whose name the
-- report gives with the fields that may differ, and its C does what that procedure does.
pub record IsPrinted (text : Program) (v : Versions) (what : List Printing) (at : ℕ)
    (w : Printing) : Type 0 where
  pub version : Procedure
  pub origin : Procedure
  pub comes : ComesFrom text v w.proc origin version
  pub origin_named : w.origin ≡ origin.name
  pub fields : w.fields ≡ differing_from v w.proc comes.from
  pub kept : DoesWhat text v.unit what at w.proc w.fields origin version

-- What stands behind the C that is printed for a unit and a schedule: the versions that are
-- printed, which are the emitted ones and the functions that they call; and for each of these the
-- promise that its C does what a procedure of the text does.
pub record Promise (bytes schedule printed : List ℕ) : Type 0 where
  pub items : List Item
  pub versions : Versions
  pub what : List Printing
  pub made : AreMade bytes schedule items versions
  pub printings : what ≡ printings_of versions
  pub listing : IsListing versions.unit what
  pub memories : memory_fault versions.unit what ≡ None
  pub narrow : too_wide versions.unit what ≡ None
  pub named : name_clash versions.unit what ≡ None
  pub text : printed ≡ text_of (lowered versions.unit what)
  pub each :
      (k : ℕ) (w : Printing)
      → slice_get what k ≡ Some w
      → IsPrinted (unit_of items) versions what k w
