-- A call as its body run in place, where the callee's buffers are parts of other buffers.
use Rattle.std.specs.Prelude.{◌≡◌, ◌==◌, ◌||◌, ℕ, ℤ, Bool, true, false, List, Option, Some, None}
use Rattle.std.specs.Prelude.{IsSome, ⊤}
use Rattle.exo_tree.specs.Tree.{Statement, Assign, Reduce, Config, Pass, If, For, Alloc, View, Call}
use Rattle.exo_tree.specs.Tree.{Block, end, next}
use Rattle.exo_meaning.specs.Value.{Value}
use Rattle.exo_meaning.specs.Scene.{Shape, Side, Seen, cell_at, index_of, composed, LieWithin}
use Rattle.exo_meaning.specs.Scene.{strides_of, AreApart}
use Rattle.exo_meaning.specs.State.{State, Cells}
use Rattle.exo_meaning.specs.Calls.{held_at}
use Rattle.exo_meaning.specs.Run.{World, run, writes}
use Rattle.exo_meaning.specs.Laws.{HasRoots}
use Rattle.exo_meaning.specs.Refines.{Both}
use Rattle.inplace_laws.specs.Uses.{in_block}

-- ---- a buffer that is a part of another, or itself

abbrev pub buffer_through : Option Seen → ℕ → ℕ
buffer_through None b = b
buffer_through (Some z) b = z.buffer

abbrev pub sides_through : Option Seen → List Side → List Side
sides_through None sides = sides
sides_through (Some z) sides = composed z.sides sides

abbrev pub cell_through : Option Seen → List ℤ → Option (List ℤ)
cell_through None at = Some at
cell_through (Some z) at = cell_at z.sides at

-- what a name sees, on the other buffer
abbrev pub through : Option Seen → Seen → Seen
through o seen = record {
  buffer = buffer_through o seen.buffer;
  sides = sides_through o seen.sides;
}

abbrev pub held_through : Option Seen → Cells → ℕ → List ℤ → Value
held_through o cells b at = held_at (cells (buffer_through o b)) (cell_through o at)

abbrev pub IsWithin : Option Seen → List Side → Type 0
IsWithin None sides = ⊤
IsWithin (Some z) sides = LieWithin z.sides sides

-- the buffers of the one run are parts of hidden buffers of the other; one that is written is apart
-- from each other one
pub record IsPlacing (hidden written strided : ℕ → Bool) (base : ℕ → Option Seen) : Type 0 where
  pub whole : (b : ℕ) → base b ≡ None → strided b ≡ true
  pub outside : (b : ℕ) (z : Seen) → base b ≡ Some z → hidden z.buffer ≡ true
  pub apart :
      (b c : ℕ) (z y : Seen)
      → written b ≡ true
      → (b == c) ≡ false
      → base b ≡ Some z
      → base c ≡ Some y
      → AreApart z y

-- ---- a state that stands for another

module _ (hidden written blind strided : ℕ → Bool) (base : ℕ → Option Seen) (first : State) where
  abbrev pub SeenStands : Seen → Seen → Type 0
  SeenStands seen to =
      (hidden seen.buffer ≡ false)
      × IsWithin (base seen.buffer) seen.sides
      × (to ≡ through (base seen.buffer) seen)

  abbrev pub BufferStands : Option Seen → Option Shape → (ℕ → Option Shape) → ℕ → Type 0
  BufferStands None o buffers b = o ≡ buffers b
  BufferStands (Some z) o buffers b =
      (shape : Shape)
      × (to : Shape)
      × (o ≡ Some shape)
      × (buffers z.buffer ≡ Some to)
      × (shape.cell ≡ to.cell)
      × (strided b ≡ true → shape.strides ≡ strides_of z.sides to.strides)

  -- no part that is written has the cell
  abbrev pub IsLeft : ℕ → List ℤ → Type 0
  IsLeft b at =
      (y : ℕ) (z : Seen)
      → written y ≡ true
      → base y ≡ Some z
      → z.buffer ≡ b
      → index_of z.sides at ≡ None

  -- the cells of the one are those of the other, which has kept all that is not written
  pub record CellsStand (c d : Cells) : Type 0 where
    pub own : (b : ℕ) → hidden b ≡ false → (at : List ℤ) → c b at ≡ held_through (base b) d b at
    pub left :
        (b : ℕ) (at : List ℤ)
        → hidden b ≡ true
        → IsSome (first.scene.buffers b)
        → IsLeft b at
        → d b at ≡ first.cells b at

  pub record StandsFor (s t : State) : Type 0 where
    pub control : (x : ℕ) → hidden x ≡ false → s.scene.control x ≡ t.scene.control x
    pub fields : s.scene.fields ≡ t.scene.fields
    pub views : (x : ℕ) → hidden x ≡ false → Both SeenStands (s.scene.views x) (t.scene.views x)
    pub names :
        (x : ℕ) (z : Seen)
        → hidden x ≡ false
        → blind x ≡ false
        → s.scene.views x ≡ Some z
        → strided z.buffer ≡ true
    pub buffers :
        (b : ℕ) → hidden b ≡ false → BufferStands (base b) (s.scene.buffers b) t.scene.buffers b
    pub others : (b : ℕ) → hidden b ≡ true → t.scene.buffers b ≡ first.scene.buffers b
    pub cells : CellsStand s.cells t.cells

-- whether it makes that buffer
abbrev mutual
  pub makes : Block → ℕ → Bool
  makes end y = false
  makes (next a b) y = step_makes a y || makes b y

  pub step_makes : Statement → ℕ → Bool
  step_makes (Assign x is e) y = false
  step_makes (Reduce x is e) y = false
  step_makes (Config f a) y = false
  step_makes Pass y = false
  step_makes (If c a b) y = makes a y || makes b y
  step_makes (For i lo hi b) y = makes b y
  step_makes (Alloc x cell dims memory) y = y == x.id
  step_makes (View w x coords) y = false
  step_makes (Call k args) y = false

-- a block may run on parts of buffers instead of on buffers of its own
abbrev pub InPlace : Type 0
InPlace =
    (world : World) (hidden written blind strided : ℕ → Bool) (base : ℕ → Option Seen)
    (root : ℕ → ℕ) (b : Block) (first s t : State)
    → IsPlacing hidden written strided base
    → in_block hidden blind b ≡ false
    → ((y : ℕ) → written y ≡ false → writes world root b y ≡ false)
    → ((x : ℕ) → makes b x ≡ true → base x ≡ None)
    → HasRoots root s.scene
    → StandsFor hidden written blind strided base first s t
    → Both (StandsFor hidden written blind strided base first) (run world b s) (run world b t)
