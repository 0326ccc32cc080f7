-- Blocks that use no other name of a staged window's root.
use Rattle.std.specs.Prelude.{◌≡◌, ◌==◌, ℕ, Bool, true, false, Some, IsSome}
use Rattle.exo_tree.specs.Tree.{Block}
use Rattle.exo_meaning.specs.Scene.{Shape, Seen, updated}
use Rattle.exo_meaning.specs.State.{State}
use Rattle.exo_meaning.specs.Run.{World, writes}
use Rattle.exo_meaning.specs.Laws.{HasRoots}
use Rattle.meaning_laws.specs.Sound.{IsSound, IsUnbound}
use Rattle.inplace_laws.specs.Uses.{in_block}
use Rattle.inplace_laws.specs.InPlace.{makes}
use Rattle.inplace_laws.specs.Staged.{MayStage}

-- ---- hidden names

-- where no name that is not hidden has the root y, a block without hidden names does not write y
abbrev pub UnwrittenLaw : Type 0
UnwrittenLaw =
    (hidden blind : ℕ → Bool) (world : World) (root : ℕ → ℕ) (b : Block) (y : ℕ)
    → hidden y ≡ true
    → ((x : ℕ) → hidden x ≡ false → (y == root x) ≡ false)
    → in_block hidden blind b ≡ false
    → writes world root b y ≡ false

-- ---- a block on a staged buffer

-- x is a name of buffer y, by the buffer of each name
abbrev pub has_root : (ℕ → ℕ) → ℕ → ℕ → Bool
has_root root y x = y == root x

-- each buffer is its own root
abbrev pub AreRoots : (ℕ → ℕ) → State → Type 0
AreRoots root s = (b : ℕ) → IsSome (s.scene.buffers b) → root b ≡ b

-- the block may use a, and no name that had the window's root before it
pub record IsAlone (blind : ℕ → Bool) (root : ℕ → ℕ) (a : ℕ) (seen : Seen) (to : Shape)
    (b : Block) (s : State) : Type 0 where
  pub sound : IsSound s
  pub roots : HasRoots root s.scene
  pub own : AreRoots root s
  pub there : s.scene.buffers seen.buffer ≡ Some to
  pub new : IsUnbound s a
  pub blinds : blind a ≡ true
  pub names : in_block (has_root (updated root a a) seen.buffer) blind b ≡ false
  pub not_made : makes b a ≡ false

-- then it may be staged
abbrev pub AloneLaw : Type 0
AloneLaw =
    (blind : ℕ → Bool) (world : World) (root : ℕ → ℕ) (a : ℕ) (seen : Seen) (to : Shape)
    (b : Block) (s : State)
    → IsAlone blind root a seen to b s
    → let roots = updated root a a in
    MayStage (has_root roots seen.buffer) blind world roots a seen to b s
