-- What the cells, fields and names of a state hold in a well-formed unit.
use Rattle.std.specs.Prelude.{◌≡◌, ℕ, Bool, true, List, [], Option, Some, None, IfSome, slice_get}
use Rattle.exo_tree.specs.Tree.{Cell, Kind, Index, Argument, Block, Procedure, ConfigField}
use Rattle.exo_tree.specs.Places.{Opened}
use Rattle.exo_tree.specs.Context.{Context, Here, After, InLoop, InThen, InElse, fill}
use Rattle.exo_meaning.specs.Scene.{Shape, Seen, whole}
use Rattle.exo_meaning.specs.State.{State}
use Rattle.exo_meaning.specs.Calls.{Callee, Given, all_given, entered, all_hold}
use Rattle.exo_meaning.specs.Run.{World, run, row_major, unit_world, kinds_of, callees}
use Rattle.exo_meaning.specs.Inputs.{IsAdmissible, IsOfKind, FitsCell}
use Rattle.exo_meaning.specs.Units.{ControlName, BufferName, with_name, scope_after, Scope, sort_in}
use Rattle.exo_meaning.specs.Units.{scope_of, are_params, is_call, field_kind, IsProcedure}
use Rattle.exo_meaning.specs.Units.{AreProcedures}
use Rattle.meaning_laws.specs.Context.{ComesTo}
use Rattle.meaning_laws.specs.Sound.{IsSound}

-- each cell holds what its type can hold
abbrev pub CellsFit : State → Type 0
CellsFit s =
    (b : ℕ) (shape : Shape)
    → s.scene.buffers b ≡ Some shape
    → (at : List _)
    → FitsCell shape.cell (s.cells b at)

-- each field holds a number of its kind
abbrev pub FieldsFit : (ℕ → Kind) → State → Type 0
FieldsFit kinds s = (f : ℕ) → IsOfKind (kinds f) (s.scene.fields f)

-- a name of that cell type sees this; a dense one sees the whole of a row-major buffer
pub record Sees (cell : Cell) (dense : Bool) (seen : Seen) (shape : Shape) : Type 0 where
  pub cell_is : cell ≡ shape.cell
  pub all : dense ≡ true → (seen.sides ≡ whole shape.dims) × (shape.strides ≡ row_major shape.dims)

-- what the names in scope stand for is of their sorts
pub record IsSorted (kinds : ℕ → Kind) (scope : Scope) (s : State) : Type 0 where
  pub buffers :
      (b : ℕ) (shape : Shape)
      → s.scene.buffers b ≡ Some shape
      → (rank : ℕ) × (dense : Bool) × (sort_in scope b ≡ Some (BufferName shape.cell rank dense))
  pub views :
      (x : ℕ) (cell : Cell) (rank : ℕ) (dense : Bool) (seen : Seen)
      → sort_in scope x ≡ Some (BufferName cell rank dense)
      → s.scene.views x ≡ Some seen
      → (shape : Shape)
      → s.scene.buffers seen.buffer ≡ Some shape
      → Sees cell dense seen shape
  pub cells : CellsFit s
  pub fields : FieldsFit kinds s

-- where a call is well formed and its assertions hold, the callee's first state is an admissible
-- input
abbrev pub FirstStateLaw : Type 0
FirstStateLaw =
    (fields : List ConfigField) (memories : ℕ) (world : World) (scope : Scope) (root : ℕ → ℕ)
    (s inner : State) (c : Callee) (args : List Argument) (gs : List Given)
    → world.kinds ≡ kinds_of fields
    → IsSound s
    → IsSorted world.kinds scope s
    → are_params (field_kind fields) memories [] c.procedure.params ≡ true
    → is_call (field_kind fields) scope root (Some c) args ≡ true
    → all_given s.scene args ≡ Some gs
    → entered c.procedure.params gs s ≡ Some inner
    → all_hold inner.scene c.procedure.asserts ≡ true
    → IsAdmissible world c.procedure inner

-- ---- runs

-- the buffers of before are there, and all cells and fields fit
pub record Ends (kinds : ℕ → Kind) (s t : State) : Type 0 where
  pub kept :
      (b : ℕ) (shape : Shape) → s.scene.buffers b ≡ Some shape → t.scene.buffers b ≡ Some shape
  pub cells : CellsFit t
  pub fields : FieldsFit kinds t

-- a unit, and a procedure that may call all of it
pub record MayRun (fields : List ConfigField) (memories : ℕ) (ps : List Procedure)
    (p : Procedure) : Type 0 where
  pub unit : AreProcedures fields memories [] ps
  pub procedure :
      IsProcedure (field_kind fields) memories (slice_get (callees (kinds_of fields) [] ps)) p

-- a run on an admissible input leaves in each cell what its type can hold, and in each field a
-- number of its kind
abbrev pub FitLaw : Type 0
FitLaw =
    (fields : List ConfigField) (memories : ℕ) (ps : List Procedure) (p : Procedure)
    → MayRun fields memories ps p
    → (s : State)
    → IsAdmissible (unit_world (kinds_of fields) ps) p s
    → IfSome (run (unit_world (kinds_of fields) ps) p.body s) (Ends (kinds_of fields) s)

-- the names in scope at the hole
abbrev pub scope_at : Context → Scope → Scope
scope_at (Here rest) scope = scope
scope_at (After a c) scope = scope_at c (scope_after a scope)
scope_at (InLoop i lo hi c rest) scope = scope_at c (with_name scope i (ControlName Index))
scope_at (InThen t c other rest) scope = scope_at c scope
scope_at (InElse t other c rest) scope = scope_at c scope

-- the names in scope at a place of a procedure; the place of no statement is where the body begins
abbrev pub scope_there : Procedure → Option Opened → Scope
scope_there p None = scope_of [] p.params
scope_there p (Some o) = scope_at o.around (scope_of [] p.params)

-- so do all states that a run comes to
abbrev pub FitsAtLaw : Type 0
FitsAtLaw =
    (fields : List ConfigField) (memories : ℕ) (ps : List Procedure) (p : Procedure) (c : Context)
    (old : Block)
    → MayRun fields memories ps p
    → p.body ≡ fill c old
    → (s u : State)
    → IsAdmissible (unit_world (kinds_of fields) ps) p s
    → ComesTo (unit_world (kinds_of fields) ps) old c s u
    → IsSorted (kinds_of fields) (scope_at c (scope_of [] p.params)) u
