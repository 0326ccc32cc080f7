-- A staged block that only reads, and cells that fit.
use Rattle.std.specs.Prelude.{◌≡◌, ℕ, Bool, false, List, Some}
use Rattle.exo_tree.specs.Tree.{Binder, Control, Coord, Alloc, Block, next}
use Rattle.exo_meaning.specs.Scene.{Shape, Seen, numbers, extents, then_do}
use Rattle.exo_meaning.specs.State.{State, on_scene, with_view}
use Rattle.exo_meaning.specs.Refines.{Both}
use Rattle.exo_meaning.specs.Run.{World, run, writes}
use Rattle.meaning_laws.specs.Sorted.{CellsFit}
use Rattle.inplace_laws.specs.Filled.{Loop}
use Rattle.inplace_laws.specs.Staged.{MayStage}
use Rattle.buffer_laws.specs.Staging.Stores.{load_nest, IsStaging, FitInto, emptied}
use Rattle.buffer_laws.specs.Staging.Stage.{AreAlike}

-- where all cells fit their types, those of a buffer fit into one of the same type
abbrev pub FitIntoLaw : Type 0
FitIntoLaw =
    (s : State) (b c : ℕ) (shape : Shape)
    → CellsFit s
    → s.scene.buffers b ≡ Some shape
    → ((to : Shape) → s.scene.buffers c ≡ Some to → to.cell ≡ shape.cell)
    → FitInto s b c

-- without a store nest, for a block that does not write the staged buffer
abbrev pub ReaderLaw : Type 0
ReaderLaw =
    (hidden blind : ℕ → Bool) (world : World) (root : ℕ → ℕ) (a : Binder) (dims : List Control)
    (memory x : ℕ) (seen : Seen) (to : Shape) (coords : List Coord) (ls : List Loop) (b : Block)
    (s : State)
    → MayStage hidden blind world root a.id seen to b s
    → numbers s.scene dims ≡ extents seen.sides
    → IsStaging a.id x seen coords ls (emptied a.id to.cell (extents seen.sides) s)
    → FitInto s seen.buffer seen.buffer
    → writes world root b a.id ≡ false
    → let loads = next (Alloc a to.cell dims memory) (load_nest a.id x coords ls) in
    Both (AreAlike s) (then_do (run world loads s) (run world b))
    (run world b (on_scene (with_view a.id seen) s))
