-- A block in the middle of the two nests.
use Rattle.std.specs.Prelude.{◌≡◌, ℕ, ℤ, Bool, List, Some, IsSome}
use Rattle.exo_tree.specs.Tree.{Binder, Control, Coord, Datum, Alloc, Assign, Reduce, Read, Block}
use Rattle.exo_tree.specs.Tree.{next}
use Rattle.exo_meaning.specs.Scene.{Shape, Seen, numbers, extents, then_do}
use Rattle.exo_meaning.specs.State.{State, on_scene, with_view}
use Rattle.exo_meaning.specs.Run.{World, run}
use Rattle.exo_meaning.specs.Refines.{Both}
use Rattle.inplace_laws.specs.Filled.{Loop}
use Rattle.inplace_laws.specs.Staged.{staged, MayStage}
use Rattle.buffer_laws.specs.Staging.Stores.{load_nest, store_nest, IsStaging, FitInto, emptied}
use Rattle.buffer_laws.specs.Staging.Inside.{Uses}

-- the statement of each nest uses x
abbrev pub UsesLaw : Type 0
UsesLaw =
    (world : World) (a x : ℕ) (is js : List Control) (e : Datum)
    → Uses world x is (Assign a js (Read x is))
    × Uses world x is (Assign x is e)
    × Uses world x is (Reduce x is e)

-- the same fields, and the same cells in the buffers of before
pub record AreAlike (s t u : State) : Type 0 where
  pub fields : t.scene.fields ≡ u.scene.fields
  pub cells : (y : ℕ) (at : List ℤ) → IsSome (s.scene.buffers y) → t.cells y at ≡ u.cells y at

-- what the nests need before the block, and behind it, each with loops of its own
pub record MayNest (world : World) (a : Binder) (dims : List Control) (x : ℕ) (seen : Seen)
    (to : Shape) (coords : List Coord) (ls ks : List Loop) (b : Block) (s : State) : Type 0 where
  pub sizes : numbers s.scene dims ≡ extents seen.sides
  pub before : IsStaging a.id x seen coords ls (emptied a.id to.cell (extents seen.sides) s)
  pub fit : FitInto s seen.buffer seen.buffer
  pub behind : (t : State) → run world b (staged a.id seen to s) ≡ Some t →
      IsStaging a.id x seen coords ks t × FitInto t a.id seen.buffer

-- allocation, load nest, block and store nest do what the block does on a view of the window
abbrev pub StageLaw : Type 0
StageLaw =
    (hidden blind : ℕ → Bool) (world : World) (root : ℕ → ℕ) (a : Binder) (dims : List Control)
    (memory x : ℕ) (seen : Seen) (to : Shape) (coords : List Coord) (ls ks : List Loop)
    (b : Block) (s : State)
    → MayStage hidden blind world root a.id seen to b s
    → MayNest world a dims x seen to coords ls ks b s
    → let loads = next (Alloc a to.cell dims memory) (load_nest a.id x coords ls) in
    let stores = store_nest a.id x coords ks in
    Both (AreAlike s)
    (then_do (run world loads s) (λ t. then_do (run world b t) (run world stores)))
    (run world b (on_scene (with_view a.id seen) s))
