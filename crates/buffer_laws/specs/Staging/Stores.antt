-- The nests of loops that copy a window into a staged buffer, and back.
use Rattle.std.specs.Prelude.{◌≡◌, ◌==◌, ◌||◌, IfSome, ℕ, ℤ, Bool, true, false, List, [], ◌∷◌, Some}
use Rattle.std.specs.Prelude.{IsSome, ⊤}
use Rattle.exo_tree.specs.Tree.{Binder, Control, Var, Sub, Coord, At, Span, Alloc, Cell, Assign}
use Rattle.exo_tree.specs.Tree.{Read, Block, next}
use Rattle.exo_meaning.specs.Value.{Undefined, stored_as}
use Rattle.exo_meaning.specs.Scene.{Shape, Seen, Scene, number, numbers, window, extents, whole}
use Rattle.exo_meaning.specs.State.{State, with_control, with_contents, with_buffer, on_scene}
use Rattle.exo_meaning.specs.Calls.{GivenView, contents, copy_back, all_positive}
use Rattle.exo_meaning.specs.Footprint.{IsTidy}
use Rattle.exo_meaning.specs.Run.{World, run, writes, tensor}
use Rattle.exo_meaning.specs.Laws.{HasRoots}
use Rattle.inplace_laws.specs.Filled.{Loop, nest}
use Rattle.inplace_laws.specs.Windows.{shifted}
use Rattle.inplace_laws.specs.Staged.{staged}

-- ---- loops over a box

abbrev pub variables : List Loop → List Control
variables [] = []
variables (l ∷ ls) = Var l.binder.id ∷ variables ls

abbrev pub is_variable : ℕ → List Loop → Bool
is_variable x [] = false
is_variable x (l ∷ ls) = (x == l.binder.id) || is_variable x ls

abbrev pub AreDistinct : List Loop → Type 0
AreDistinct [] = ⊤
AreDistinct (l ∷ ls) = (is_variable l.binder.id ls ≡ false) × AreDistinct ls

-- at any numbers of the loops' variables
abbrev pub AtAny : List Loop → (Scene → Type 0) → Scene → Type 0
AtAny [] P scene = P scene
AtAny (l ∷ ls) P scene = (n : ℤ) → AtAny ls P (with_control l.binder.id n scene)

-- they run from 0 over these extents
abbrev pub RunOver : List Loop → List ℤ → Scene → Type 0
RunOver [] [] scene = ⊤
RunOver [] (d ∷ ds) scene = ⊥
RunOver (l ∷ ls) [] scene = ⊥
RunOver (l ∷ ls) (d ∷ ds) scene =
    (number scene l.extent ≡ d) × ((n : ℤ) → RunOver ls ds (with_control l.binder.id n scene))

-- ---- the two nests

-- for each index list: a[..] = x[..], on the coordinates of the window
abbrev pub load_nest : ℕ → ℕ → List Coord → List Loop → Block
load_nest a x coords ls =
    nest ls (Assign a (variables ls) (Read x (shifted coords (variables ls))))

-- for each index list: x[..] = a[..]
abbrev pub store_nest : ℕ → ℕ → List Coord → List Loop → Block
store_nest a x coords ls =
    nest ls (Assign x (shifted coords (variables ls)) (Read a (variables ls)))

-- a is a buffer of the extents of the window of x, over which the loops run
pub record IsStaging (a x : ℕ) (seen : Seen) (coords : List Coord) (ls : List Loop)
    (s : State) : Type 0 where
  pub tidy : IsTidy s
  pub name : s.scene.views a ≡ Some (record { buffer = a; sides = whole (extents seen.sides) })
  pub there : (to : Shape) × (s.scene.buffers seen.buffer ≡ Some to)
  pub other : (seen.buffer == a) ≡ false
  pub window : AtAny ls (λ scene. window scene x coords ≡ Some seen) s.scene
  pub distinct : AreDistinct ls
  pub over : RunOver ls (extents seen.sides) s.scene

-- all that the buffer's cells hold fits the cells of the other
abbrev pub FitInto : State → ℕ → ℕ → Type 0
FitInto s b c =
    (to : Shape) (at : List ℤ) → s.scene.buffers c ≡ Some to →
    stored_as to.cell (s.cells b at) ≡ s.cells b at

-- the store nest copies the staged buffer back into the window
abbrev pub StoresLaw : Type 0
StoresLaw =
    (world : World) (a x : ℕ) (seen : Seen) (coords : List Coord) (ls : List Loop) (s : State)
    → IsStaging a x seen coords ls s
    → FitInto s a seen.buffer
    → run world (store_nest a x coords ls) s
    ≡ Some (record s { cells = copy_back true (GivenView seen) (s.cells a) s.cells })

-- the load nest gives an empty buffer of the window's extents the window's contents
abbrev pub LoadsLaw : Type 0
LoadsLaw =
    (world : World) (a x : ℕ) (cell : Cell) (seen : Seen) (coords : List Coord) (ls : List Loop)
    (s : State)
    → IsStaging a x seen coords ls s
    → FitInto s seen.buffer a
    → s.scene.buffers a ≡ Some (tensor cell (extents seen.sides))
    → ((at : List ℤ) → s.cells a at ≡ Undefined)
    → run world (load_nest a x coords ls) s ≡ Some (with_contents a (contents s.cells seen) s)

-- ---- the box

-- an extent per span
abbrev pub spans : List Coord → List Control
spans [] = []
spans (At u ∷ cs) = spans cs
spans (Span u v ∷ cs) = Sub v u ∷ spans cs

-- the spans' extents are those of the window, and each is at least 1
abbrev pub BoxLaw : Type 0
BoxLaw =
    (scene : Scene) (x : ℕ) (coords : List Coord) (seen : Seen)
    → window scene x coords ≡ Some seen
    → (numbers scene (spans coords) ≡ extents seen.sides)
    × (all_positive (extents seen.sides) ≡ true)

-- ---- the way in

-- the state in which a new buffer holds nothing
abbrev pub emptied : ℕ → Cell → List ℤ → State → State
emptied a cell dims s =
    with_contents a (λ at. Undefined) (on_scene (with_buffer a (tensor cell dims)) s)

-- an allocation with the window's extents and the load nest make the staged buffer
abbrev pub StageInLaw : Type 0
StageInLaw =
    (world : World) (a : Binder) (dims : List Control) (memory x : ℕ) (seen : Seen) (to : Shape)
    (coords : List Coord) (ls : List Loop) (s : State)
    → numbers s.scene dims ≡ extents seen.sides
    → s.scene.buffers seen.buffer ≡ Some to
    → IsStaging a.id x seen coords ls (emptied a.id to.cell (extents seen.sides) s)
    → FitInto s seen.buffer seen.buffer
    → run world (next (Alloc a to.cell dims memory) (load_nest a.id x coords ls)) s
    ≡ Some (staged a.id seen to s)

-- ---- a block that only reads

-- nothing has to be copied back
abbrev pub NoStoreLaw : Type 0
NoStoreLaw =
    (world : World) (root : ℕ → ℕ) (a : ℕ) (seen : Seen) (to : Shape) (b : Block) (s : State)
    → HasRoots root (staged a seen to s).scene
    → IsSome (s.scene.buffers seen.buffer)
    → (seen.buffer == a) ≡ false
    → writes world root b a ≡ false
    → writes world root b seen.buffer ≡ false
    → IfSome (run world b (staged a seen to s))
    (λ t. copy_back true (GivenView seen) (t.cells a) t.cells ≡ t.cells)
