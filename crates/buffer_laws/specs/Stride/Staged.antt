-- A staged buffer that is passed to procedures, none of which looks at its strides.
use Rattle.std.specs.Prelude.{◌≡◌, ℕ, ℤ, Bool, true, false, List, Some, IsSome}
use Rattle.exo_tree.specs.Tree.{Block}
use Rattle.exo_meaning.specs.Scene.{Shape, Seen, extents}
use Rattle.exo_meaning.specs.State.{State, on_scene, with_view, with_buffer, with_contents}
use Rattle.exo_meaning.specs.Calls.{contents}
use Rattle.exo_meaning.specs.Run.{World, run, writes}
use Rattle.exo_meaning.specs.Laws.{HasRoots}
use Rattle.meaning_laws.specs.Sound.{IsSound, IsUnbound}
use Rattle.inplace_laws.specs.InPlace.{makes}
use Rattle.inplace_laws.specs.Staged.{staged, StagedAlike}
use Rattle.inplace_laws.specs.Uses.{in_block}
use Rattle.buffer_laws.specs.Stride.Strides.{uses_strides, WhereBoth, CallsAreBlind}
use Rattle.inplace_laws.specs.CallInPlace.{no_name}

-- a buffer of its own with the cells of the window, and with these strides
abbrev pub staged_with : List ℤ → ℕ → Seen → Shape → State → State
staged_with strides a seen to s =
    with_contents a (contents s.cells seen) (on_scene (with_buffer a (record {
      cell = to.cell;
      dims = extents seen.sides;
      strides = strides;
    })) s)

-- the block uses a for the window and no strides of it, in calls neither; all names of the window's
-- buffer are hidden from it, and no other
pub record MayStageBlind (hidden : ℕ → Bool) (world : World) (sees : ℕ → ℕ → Bool)
    (root : ℕ → ℕ) (a : ℕ) (seen : Seen) (to : Shape) (b : Block) (s : State) : Type 0 where
  pub sound : IsSound s
  pub there : s.scene.buffers seen.buffer ≡ Some to
  pub new : IsUnbound s a
  pub shown : hidden a ≡ false
  pub hides : hidden seen.buffer ≡ true
  pub only : (y : ℕ) → hidden y ≡ true → IsSome (s.scene.buffers y) → y ≡ seen.buffer
  pub views : (y : ℕ) (z : Seen) → hidden y ≡ false → s.scene.views y ≡ Some z
      → hidden z.buffer ≡ false
  pub names : in_block hidden no_name b ≡ false
  pub not_made : makes b a ≡ false
  pub roots : HasRoots root (staged a seen to s).scene
  pub not_written : writes world root b seen.buffer ≡ false
  pub strides : uses_strides world.callees sees root b a ≡ false

-- where a run on the staged buffer and a run on the window both come to an end, the buffer copied
-- back makes the one end the other; an assertion on its strides may fail in one alone
abbrev pub BlindStagedLaw : Type 0
BlindStagedLaw =
    (hidden : ℕ → Bool) (world : World) (sees : ℕ → ℕ → Bool) (root : ℕ → ℕ) (a : ℕ)
    (seen : Seen) (to : Shape) (b : Block) (s : State)
    → CallsAreBlind world sees
    → MayStageBlind hidden world sees root a seen to b s
    → WhereBoth (StagedAlike a seen s) (run world b (staged a seen to s))
    (run world b (on_scene (with_view a seen) s))
