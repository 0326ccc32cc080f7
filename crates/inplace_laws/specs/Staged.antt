-- A staged buffer.
use Rattle.std.specs.Prelude.{◌≡◌, ℕ, ℤ, Bool, true, false, List, Some, IsSome}
use Rattle.exo_tree.specs.Tree.{Block}
use Rattle.exo_meaning.specs.Scene.{Shape, Seen, extents}
use Rattle.exo_meaning.specs.State.{State, on_scene, with_view, with_buffer, with_contents}
use Rattle.exo_meaning.specs.Calls.{GivenView, contents, copy_back}
use Rattle.exo_meaning.specs.Run.{World, run, writes, tensor}
use Rattle.exo_meaning.specs.Laws.{HasRoots}
use Rattle.exo_meaning.specs.Refines.{Both}
use Rattle.inplace_laws.specs.Uses.{in_block}
use Rattle.meaning_laws.specs.Sound.{IsSound, IsUnbound}
use Rattle.inplace_laws.specs.InPlace.{makes}

-- a buffer of its own with the cells of the window
abbrev pub staged : ℕ → Seen → Shape → State → State
staged a seen to s =
    with_contents a (contents s.cells seen)
    (on_scene (with_buffer a (tensor to.cell (extents seen.sides))) s)

-- the block uses a for the window; all names of the window's buffer are hidden from it, and no
-- other; it does not look at the strides of a
pub record MayStage (hidden blind : ℕ → Bool) (world : World) (root : ℕ → ℕ) (a : ℕ) (seen : Seen)
    (to : Shape) (b : Block) (s : State) : Type 0 where
  pub sound : IsSound s
  pub there : s.scene.buffers seen.buffer ≡ Some to
  pub new : IsUnbound s a
  pub shown : hidden a ≡ false
  pub blinds : blind a ≡ true
  pub hides : hidden seen.buffer ≡ true
  pub only : (y : ℕ) → hidden y ≡ true → IsSome (s.scene.buffers y) → y ≡ seen.buffer
  pub views :
      (y : ℕ) (z : Seen) → hidden y ≡ false → s.scene.views y ≡ Some z → hidden z.buffer ≡ false
  pub names : in_block hidden blind b ≡ false
  pub not_made : makes b a ≡ false
  pub roots : HasRoots root (staged a seen to s).scene
  pub not_written : writes world root b seen.buffer ≡ false

-- a run on the window, and a run on the staged buffer that is then copied back
pub record StagedAlike (a : ℕ) (seen : Seen) (s t u : State) : Type 0 where
  pub fields : t.scene.fields ≡ u.scene.fields
  pub cells :
      (y : ℕ) (at : List ℤ)
      → IsSome (s.scene.buffers y)
      → copy_back true (GivenView seen) (t.cells a) t.cells y at ≡ u.cells y at

abbrev pub StagedLaw : Type 0
StagedLaw =
    (hidden blind : ℕ → Bool) (world : World) (root : ℕ → ℕ) (a : ℕ) (seen : Seen) (to : Shape)
    (b : Block) (s : State)
    → MayStage hidden blind world root a seen to b s
    → Both (StagedAlike a seen s)
    (run world b (staged a seen to s))
    (run world b (on_scene (with_view a seen) s))
