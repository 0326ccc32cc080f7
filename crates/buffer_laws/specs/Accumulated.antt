-- A block that only adds to a buffer, run from zeros.
use Rattle.std.specs.Prelude.{◌≡◌, ◌==◌, if◌then◌else◌, ℕ, ℤ, pos, Bool, true, false, List}
use Rattle.std.specs.Prelude.{Some, option_map}
use Rattle.exo_tree.specs.Tree.{Cell, Block, Procedure, ConfigField}
use Rattle.exo_meaning.specs.Value.{Value, Number}
use Rattle.exo_meaning.specs.Scene.{Shape}
use Rattle.exo_meaning.specs.State.{State, with_contents}
use Rattle.exo_meaning.specs.Footprint.{Entry, Reads, Writes, Reduces, Made, Change, changed_by}
use Rattle.exo_meaning.specs.Footprint.{added}
use Rattle.exo_meaning.specs.Laws.{HasRoots}
use Rattle.exo_meaning.specs.Orders.{Each}
use Rattle.exo_meaning.specs.Run.{run, unit_world, kinds_of}
use Rattle.exo_meaning.specs.Units.{Scope, BufferName, sort_in}
use Rattle.meaning_laws.specs.Touched.{touched, unit_modes, MayTouch, Reading, Writing}
use Rattle.meaning_laws.specs.Touched.{has_mode}

-- buffer y holds 0
abbrev pub from_zero : ℕ → State → State
from_zero y s = with_contents y (λ at. Number (pos 0)) s

-- these values are added to the cells of y
abbrev pub adding : Cell → (List ℤ → Value) → ℕ → Change
adding cell values y x at v = if x == y then added cell (values at) v else v

-- the entry reduces y, in its cell type, or is on another buffer
abbrev pub OnlyReduces : ℕ → Cell → Entry → Type 0
OnlyReduces y cell (Reads q) = (q.buffer == y) ≡ false
OnlyReduces y cell (Writes q) = (q.buffer == y) ≡ false
OnlyReduces y cell (Reduces c q) = (q.buffer == y) ≡ true → c ≡ cell
OnlyReduces y cell (Made x) = (x == y) ≡ false

-- a run that only reduces y, calls included, is the run from zeros with what y held added behind it
abbrev pub AccumLaw : Type 0
AccumLaw =
    (fields : List ConfigField) (memories : ℕ) (ps : List Procedure) (scope : Scope)
    (root : ℕ → ℕ) (b : Block) (s : State) (y : ℕ) (shape : Shape)
    → let world = unit_world (kinds_of fields) ps in
    let modes = unit_modes (kinds_of fields) ps in
    MayTouch fields memories ps scope root b s
    → s.scene.buffers y ≡ Some shape
    → Each (OnlyReduces y shape.cell) (touched world modes b (from_zero y s))
    → run world b s
    ≡ option_map (changed_by (adding shape.cell (s.cells y) y)) (run world b (from_zero y s))

-- a name has the cell type of its root
abbrev pub RootsHaveCells : Scope → (ℕ → ℕ) → Type 0
RootsHaveCells scope root =
    (x : ℕ) (cell : Cell) (rank : ℕ) (dense : Bool)
    → sort_in scope x ≡ Some (BufferName cell rank dense)
    → (k : ℕ) × (d : Bool) × (sort_in scope (root x) ≡ Some (BufferName cell k d))

-- so it is where the block neither reads nor writes y, directly, through views or in calls
abbrev pub AccumByModes : Type 0
AccumByModes =
    (fields : List ConfigField) (memories : ℕ) (ps : List Procedure) (scope : Scope)
    (root : ℕ → ℕ) (b : Block) (s : State) (y : ℕ) (shape : Shape)
    → let world = unit_world (kinds_of fields) ps in
    let modes = unit_modes (kinds_of fields) ps in
    MayTouch fields memories ps scope root b s
    → s.scene.buffers y ≡ Some shape
    → HasRoots root s.scene
    → RootsHaveCells scope root
    → has_mode world.callees modes Reading root b y ≡ false
    → has_mode world.callees modes Writing root b y ≡ false
    → run world b s
    ≡ option_map (changed_by (adding shape.cell (s.cells y) y)) (run world b (from_zero y s))
