-- What a run on a staged buffer leaves of all names, beside a run on a view of the window.
use Rattle.std.specs.Prelude.{◌≡◌, ◌==◌, ℕ, ℤ, Bool, false, List, Some}
use Rattle.exo_tree.specs.Tree.{Block}
use Rattle.exo_meaning.specs.Scene.{Shape, Seen}
use Rattle.exo_meaning.specs.State.{State, on_scene, with_view}
use Rattle.exo_meaning.specs.Calls.{contents}
use Rattle.exo_meaning.specs.Run.{World, run}
use Rattle.inplace_laws.specs.Staged.{staged}
use Rattle.buffer_laws.specs.Stride.Staged.{MayStageBlind}
use Rattle.buffer_laws.specs.Stride.Strides.{WhereBoth, CallsAreBlind}

-- u: the end on the buffer a; w: the end on the view. A name that sees no part of the window's
-- buffer stands for the same in both, and a has the window's cells
pub record EndsStand (hidden : ℕ → Bool) (a : ℕ) (seen : Seen) (u w : State) : Type 0 where
  pub control : (y : ℕ) → hidden y ≡ false → u.scene.control y ≡ w.scene.control y
  pub buffers : (y : ℕ) → hidden y ≡ false → (y == a) ≡ false
      → u.scene.buffers y ≡ w.scene.buffers y
  pub views : (y : ℕ) → hidden y ≡ false
      → ((z : Seen) → w.scene.views y ≡ Some z → (z.buffer == seen.buffer) ≡ false)
      → u.scene.views y ≡ w.scene.views y
  pub cells : (y : ℕ) → hidden y ≡ false → (y == a) ≡ false → (at : List ℤ)
      → u.cells y at ≡ w.cells y at
  pub own : (at : List ℤ) → u.cells a at ≡ contents w.cells seen at

abbrev pub NamesStand : Type 0
NamesStand =
    (hidden : ℕ → Bool) (world : World) (sees : ℕ → ℕ → Bool) (root : ℕ → ℕ) (a : ℕ)
    (seen : Seen) (to : Shape) (b : Block) (s : State)
    → CallsAreBlind world sees
    → MayStageBlind hidden world sees root a seen to b s
    → WhereBoth (EndsStand hidden a seen) (run world b (staged a seen to s))
    (run world b (on_scene (with_view a seen) s))
