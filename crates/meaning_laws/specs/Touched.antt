-- What a call touches, and what a block with calls touches.
use Rattle.std.specs.Prelude.{◌≡◌, ◌++◌, ℕ, ℤ, Bool, true, List, [], ◌∷◌, map, Option, Some, None}
use Rattle.std.specs.Prelude.{IfSome}
use Rattle.exo_tree.specs.Tree.{Binder, Index, Cell, Argument, Block, Param, ParamKind}
use Rattle.exo_tree.specs.Tree.{ControlParam, TensorParam, WindowParam, Procedure, ConfigField}
use Rattle.exo_meaning.specs.Scene.{Side, Point, Range, Seen, then_do}
use Rattle.exo_meaning.specs.State.{State, Place, on_scene, with_control}
use Rattle.exo_meaning.specs.Calls.{Callee, Given, GivenNumber, GivenView, all_given}
use Rattle.exo_meaning.specs.Run.{World, run, turn, range, count, callees, kinds_of, unit_world}
use Rattle.exo_meaning.specs.Footprint.{Entry, Reads, Writes, Reduces, Made, chosen, footprint}
use Rattle.exo_meaning.specs.Footprint.{IsClear, Change, Passes, LeavesOthers, Exchanges, ChangesBy}
use Rattle.exo_meaning.specs.Inputs.{IsAdmissible}
pub use Rattle.exo_meaning.specs.Modes.{Mode, Reading, Writing, Reducing, Modes, picked, reads_from}
pub use Rattle.exo_meaning.specs.Modes.{call_has, has_mode, step_has_mode, no_modes, modes_at}
pub use Rattle.exo_meaning.specs.Modes.{modes_in, all_modes, unit_modes}
use Rattle.exo_meaning.specs.Nests.{both_turns}
use Rattle.meaning_laws.specs.Pairs.{LeavesFields, AreClear}
use Rattle.exo_meaning.specs.Orders.{Each, HasScene}
use Rattle.exo_meaning.specs.Units.{Scope, Sort, ControlName, BufferName, sort_in, scope_of}
use Rattle.exo_meaning.specs.Units.{with_name, is_new, is_block, field_kind, AreProcedures}
use Rattle.meaning_laws.specs.Sound.{IsSound}
use Rattle.meaning_laws.specs.Sorted.{IsSorted, MayRun}

-- ---- the entries of a call

-- each first index before each list
abbrev pub crossed : List ℤ → List (List ℤ) → List (List ℤ)
crossed [] ats = []
crossed (i ∷ is) ats = map (λ at. i ∷ at) ats ++ crossed is ats

-- the cells that a name sees
abbrev pub cells_of : List Side → List (List ℤ)
cells_of [] = [] ∷ []
cells_of (Point p ∷ sides) = crossed (p ∷ []) (cells_of sides)
cells_of (Range lo n ∷ sides) = crossed (range lo (count n)) (cells_of sides)

abbrev pub window_entries : (Place → Entry) → Seen → List Entry
window_entries f z = map (λ at. f (record { buffer = z.buffer; at = at })) (cells_of z.sides)

-- one entry for each cell of the window and each mode of the parameter
abbrev pub buffer_entries : Modes → ℕ → Cell → Given → List Entry
buffer_entries modes x cell (GivenNumber n) = []
buffer_entries modes x cell (GivenView z) =
    chosen (modes Reading x) (window_entries Reads z) []
    ++ (chosen (modes Writing x) (window_entries Writes z) []
    ++ chosen (modes Reducing x) (window_entries (Reduces cell) z) [])

abbrev pub param_entries : Modes → ℕ → ParamKind → Given → List Entry
param_entries modes x (ControlParam kind) g = []
param_entries modes x (TensorParam cell dims memory) g = buffer_entries modes x cell g
param_entries modes x (WindowParam cell dims memory) g = buffer_entries modes x cell g

abbrev pub all_entries : Modes → List Param → List Given → List Entry
all_entries modes [] gs = []
all_entries modes (p ∷ ps) [] = []
all_entries modes (p ∷ ps) (g ∷ gs) =
    param_entries modes p.binder.id p.kind g ++ all_entries modes ps gs

abbrev pub given_entries : Modes → List Param → Option (List Given) → List Entry
given_entries modes ps None = []
given_entries modes ps (Some gs) = all_entries modes ps gs

abbrev pub entries_to : Option Callee → Modes → List Argument → State → List Entry
entries_to None modes args s = []
entries_to (Some callee) modes args s =
    given_entries modes callee.procedure.params (all_given s.scene args)

abbrev pub call_entries : (ℕ → Option Callee) → (ℕ → Modes) → ℕ → List Argument → State → List Entry
call_entries callees modes k args s = entries_to (callees k) (modes k) args s

-- all that a run of a block touches, calls included
abbrev pub touched : World → (ℕ → Modes) → Block → State → List Entry
touched world modes b s = footprint world (call_entries world.callees modes) b s

-- ---- what the modes say

-- the buffer has the mode; one of the outer scope is reduced in its own cell type, and none of them
-- is made
abbrev pub IsCovered : Scope → Modes → Entry → Type 0
IsCovered outer all (Reads q) = all Reading q.buffer ≡ true
IsCovered outer all (Writes q) = all Writing q.buffer ≡ true
IsCovered outer all (Reduces cell q) =
    (all Reducing q.buffer ≡ true)
    × ((sort : Sort) → sort_in outer q.buffer ≡ Some sort
    → (r : ℕ) × (d : Bool) × (sort ≡ BufferName cell r d))
IsCovered outer all (Made x) = sort_in outer x ≡ None

-- a run of a well-formed procedure on an admissible input touches each parameter in its modes alone
abbrev pub ModesCover : Type 0
ModesCover =
    (fields : List ConfigField) (memories : ℕ) (ps : List Procedure) (p : Procedure)
    → MayRun fields memories ps p → let kinds = kinds_of fields in
    let world = unit_world kinds ps in
    let modes = unit_modes kinds ps in
    (s : State) → IsAdmissible world p s
    → Each (IsCovered (scope_of [] p.params) (modes_in world modes p))
    (touched world modes p.body s)

-- ---- blocks of a well-formed unit

-- from a sound state whose names are of their sorts
pub record MayTouch (fields : List ConfigField) (memories : ℕ) (ps : List Procedure) (scope : Scope)
    (root : ℕ → ℕ) (b : Block) (s : State) : Type 0 where
  pub unit : AreProcedures fields memories [] ps
  pub block : is_block (field_kind fields) memories
      (unit_world (kinds_of fields) ps).callees scope root b ≡ true
  pub sound : IsSound s
  pub sorted : IsSorted (kinds_of fields) scope s

-- a run is a change of the cells that goes by what it touches
abbrev pub RunsGoByFootprint : Type 0
RunsGoByFootprint =
    (fields : List ConfigField) (memories : ℕ) (ps : List Procedure) (scope : Scope) (root : ℕ → ℕ)
    (b : Block) (s : State) → MayTouch fields memories ps scope root b s
    → let world = unit_world (kinds_of fields) ps in
    IfSome (run world b s) (ChangesBy (touched world (unit_modes (kinds_of fields) ps) b s) s)

-- and it exchanges with each change from outside that what it touches lets pass
abbrev pub RunsExchange : Type 0
RunsExchange =
    (fields : List ConfigField) (memories : ℕ) (ps : List Procedure) (scope : Scope) (root : ℕ → ℕ)
    (b : Block) (s : State) → MayTouch fields memories ps scope root b s
    → let world = unit_world (kinds_of fields) ps in
    (d : Change) → LeavesOthers d s.scene
    → Each (Passes d) (touched world (unit_modes (kinds_of fields) ps) b s)
    → Exchanges d (run world b) s

-- two blocks that leave all names and fields alone may be run in either order where no entry of the
-- one clashes with one of the other, calls included
abbrev pub BlocksCommute : Type 0
BlocksCommute =
    (fields : List ConfigField) (memories : ℕ) (ps : List Procedure) (scope : Scope) (root : ℕ → ℕ)
    (a b : Block) (s : State) → MayTouch fields memories ps scope root a s
    → MayTouch fields memories ps scope root b s → let world = unit_world (kinds_of fields) ps in
    let modes = unit_modes (kinds_of fields) ps in
    IfSome (run world a s) (HasScene s.scene) → IfSome (run world b s) (HasScene s.scene)
    → AreClear s.scene (touched world modes a s) (touched world modes b s)
    → then_do (run world a s) (run world b) ≡ then_do (run world b s) (run world a)

-- ---- turns

abbrev pub turn_touched : World → (ℕ → Modes) → Binder → Block → ℤ → State → List Entry
turn_touched world modes i b n s = touched world modes b (on_scene (with_control i.id n) s)

-- the loop's variable is new, and its body is well formed
abbrev pub MayTurn : List ConfigField → ℕ → List Procedure → Scope → (ℕ → ℕ) → Binder → Block
    → Type 0
MayTurn fields memories ps scope root i b =
    (is_new scope i ≡ true)
    × (is_block (field_kind fields) memories (unit_world (kinds_of fields) ps).callees
    (with_name scope i (ControlName Index)) root b ≡ true)

-- in a well-formed unit two turns that write no field commute where no entry of the one clashes
-- with one of the other, calls included
abbrev pub TurnsWithCallsCommute : Type 0
TurnsWithCallsCommute =
    (fields : List ConfigField) (memories : ℕ) (ps : List Procedure) (scope : Scope) (root : ℕ → ℕ)
    (i j : Binder) (a b : Block) (m n : ℤ) (s : State) → AreProcedures fields memories [] ps
    → let world = unit_world (kinds_of fields) ps in
    let modes = unit_modes (kinds_of fields) ps in
    IsSound s → IsSorted (kinds_of fields) scope s → MayTurn fields memories ps scope root i a
    → MayTurn fields memories ps scope root j b
    → IfSome (turn i.id (run world a) m s) (HasScene s.scene)
    → IfSome (turn j.id (run world b) n s) (HasScene s.scene)
    → Each (IsClear s.scene (turn_touched world modes j b n s)) (turn_touched world modes i a m s)
    → Each (IsClear s.scene (turn_touched world modes i a m s)) (turn_touched world modes j b n s)
    → then_do (turn i.id (run world a) m s) (turn j.id (run world b) n)
    ≡ then_do (turn j.id (run world b) n s) (turn i.id (run world a) m)

-- what one turn of two loops, one in the other, touches
abbrev pub pair_touched : World → (ℕ → Modes) → Binder → Binder → Block → ℤ × ℤ → State → List Entry
pair_touched world modes i j b x s =
    touched world modes b (on_scene (with_control j.id x.1) (on_scene (with_control i.id x.0) s))

-- two turns of a nest of loops commute where what they touch does not clash, calls included
abbrev pub PairsWithCallsCommute : Type 0
PairsWithCallsCommute =
    (fields : List ConfigField) (memories : ℕ) (ps : List Procedure) (scope : Scope) (root : ℕ → ℕ)
    (i j : Binder) (b : Block) (x y : ℤ × ℤ) (s : State) → AreProcedures fields memories [] ps
    → let world = unit_world (kinds_of fields) ps in
    let modes = unit_modes (kinds_of fields) ps in
    IsSound s → IsSorted (kinds_of fields) scope s → is_new scope i ≡ true
    → is_new (with_name scope i (ControlName Index)) j ≡ true
    → is_block (field_kind fields) memories world.callees
    (with_name (with_name scope i (ControlName Index)) j (ControlName Index)) root b ≡ true
    → LeavesFields world b
    → AreClear s.scene (pair_touched world modes i j b x s) (pair_touched world modes i j b y s)
    → then_do (both_turns i.id j.id (run world b) x s) (both_turns i.id j.id (run world b) y)
    ≡ then_do (both_turns i.id j.id (run world b) y s) (both_turns i.id j.id (run world b) x)
