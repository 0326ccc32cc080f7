-- The nests of loops of a staged buffer that is added to its window: one before the block sets the
-- buffer to 0, and one behind it adds the buffer.
use Rattle.std.specs.Prelude.{◌≡◌, ℕ, ℤ, pos, true, List, Some}
use Rattle.exo_tree.specs.Tree.{Cell, Binder, Control, Coord, Const, Read, Assign, Reduce, Alloc}
use Rattle.exo_tree.specs.Tree.{Block, next, joined}
use Rattle.exo_meaning.specs.Value.{Value, Number}
use Rattle.exo_meaning.specs.Scene.{Shape, Seen, numbers, extents}
use Rattle.exo_meaning.specs.State.{State, Cells, on_scene, with_buffer, with_contents}
use Rattle.exo_meaning.specs.Calls.{GivenView, contents, copy_back}
use Rattle.exo_meaning.specs.Footprint.{added}
use Rattle.exo_meaning.specs.Run.{World, run, tensor}
use Rattle.inplace_laws.specs.Filled.{Loop, nest}
use Rattle.inplace_laws.specs.Windows.{shifted}
use Rattle.buffer_laws.specs.Staging.Stores.{IsStaging, variables, emptied}

-- for each index list: a[..] = 0
abbrev pub zero_nest : ℕ → List Loop → Block
zero_nest a ls = nest ls (Assign a (variables ls) (Const (pos 0)))

-- for each index list: x[..] += a[..], on the coordinates of the window
abbrev pub sum_nest : ℕ → ℕ → List Coord → List Loop → Block
sum_nest a x coords ls =
    nest ls (Reduce x (shifted coords (variables ls)) (Read a (variables ls)))

-- 0 at each index list of a window
abbrev pub zeros : Seen → List ℤ → Value
zeros seen = contents (λ b at. Number (pos 0)) seen

-- a buffer of its own of the window's extents that holds 0
abbrev pub zeroed : ℕ → Seen → Shape → State → State
zeroed a seen to s =
    with_contents a (zeros seen) (on_scene (with_buffer a (tensor to.cell (extents seen.sides))) s)

-- what a window holds, and these values
abbrev pub sums : Cell → (List ℤ → Value) → Cells → Seen → List ℤ → Value
sums cell values cells seen at = added cell (values at) (contents cells seen at)

-- the allocation and the first nest make the buffer
abbrev pub ZerosLaw : Type 0
ZerosLaw =
    (world : World) (a : Binder) (dims : List Control) (memory x : ℕ) (seen : Seen) (to : Shape)
    (coords : List Coord) (ls : List Loop) (s : State)
    → numbers s.scene dims ≡ extents seen.sides
    → IsStaging a.id x seen coords ls (emptied a.id to.cell (extents seen.sides) s)
    → run world (next (Alloc a to.cell dims memory) (zero_nest a.id ls)) s
    ≡ Some (zeroed a.id seen to s)

-- the second nest adds the buffer to the window, cell by cell
abbrev pub SumsLaw : Type 0
SumsLaw =
    (world : World) (a x : ℕ) (seen : Seen) (to : Shape) (coords : List Coord) (ls : List Loop)
    (s : State)
    → IsStaging a x seen coords ls s
    → s.scene.buffers seen.buffer ≡ Some to
    → run world (sum_nest a x coords ls) s
    ≡ Some (record s {
      cells = copy_back true (GivenView seen) (sums to.cell (s.cells a) s.cells seen) s.cells;
    })

-- allocation, first nest, block and second nest
abbrev pub between_sums : Binder → Cell → List Control → ℕ → ℕ → List Coord → List Loop
    → List Loop → Block → Block
between_sums a cell dims memory x coords ls ks inner =
    joined (next (Alloc a cell dims memory) (zero_nest a.id ls))
    (joined inner (sum_nest a.id x coords ks))
