-- A block that is staged, from the block as it stands.
use Rattle.std.specs.Prelude.{◌≡◌, ◌==◌, ℕ, Bool, false, List, Some, IfSome}
use Rattle.exo_tree.specs.Tree.{Binder, Control, Coord, Alloc, Block, next}
use Rattle.exo_meaning.specs.Scene.{Shape, Seen, numbers, extents, window, then_do}
use Rattle.exo_meaning.specs.State.{State, on_scene, with_view}
use Rattle.exo_meaning.specs.Run.{World, run, writes}
use Rattle.exo_meaning.specs.Unseen.{SameBut}
use Rattle.meaning_laws.specs.Sound.{IsSound, IsUnbound}
use Rattle.inplace_laws.specs.Filled.{Loop}
use Rattle.exo_meaning.specs.Scene.{updated}
use Rattle.buffer_laws.specs.Staging.Stores.{load_nest, store_nest, IsStaging, FitInto, emptied}
use Rattle.buffer_laws.specs.Staging.Alone.{IsAlone}
use Rattle.buffer_laws.specs.Staging.Stage.{AreAlike}
use Rattle.buffer_laws.specs.Staging.Behind.{IsBetween, MayGoRound}
use Rattle.buffer_laws.specs.Staging.Converted.{converted, FitsWithin, IsNewName}

-- a is new and the window of x at these coordinates is there; the block, whose accesses of x meet
-- its points, is the block without a, and its converted form binds none of the names used
pub record MayConvert (world : World) (a x : ℕ) (seen : Seen) (coords : List Coord) (b : Block)
    (s : State) : Type 0 where
  pub sound : IsSound s
  pub unbound : IsUnbound s a
  pub window : window s.scene x coords ≡ Some seen
  pub new : IsNewName a coords b
  pub fit : FitsWithin world x coords b s
  pub between : IsBetween a x seen coords (converted a x coords b)

-- a run of u that goes to an end, and what is known of both ends
abbrev pub Follows : (State → State → Type 0) → World → Block → State → State → Type 0
Follows R world b s u = (t : State) × (run world b s ≡ Some t) × R t u

-- where the converted block runs with a as a view of the window, the block runs to the same end
abbrev pub ViewedLaw : Type 0
ViewedLaw =
    (world : World) (a x : ℕ) (seen : Seen) (coords : List Coord) (b : Block) (s : State)
    → MayConvert world a x seen coords b s
    → IfSome (run world (converted a x coords b) (on_scene (with_view a seen) s))
    (Follows (λ t u. SameBut (λ y. y == a) u t) world b s)

-- where allocation, load nest, converted block and store nest run, the block runs to an end with
-- the same fields and the same cells in all buffers of before
abbrev pub StagedBlockLaw : Type 0
StagedBlockLaw =
    (blind : ℕ → Bool) (world : World) (root : ℕ → ℕ) (a : Binder) (dims : List Control)
    (memory x : ℕ) (seen : Seen) (to : Shape) (coords : List Coord) (ls ks : List Loop)
    (b : Block) (s : State)
    → let inner = converted a.id x coords b in
    MayConvert world a.id x seen coords b s
    → IsAlone blind root a.id seen to inner s
    → MayGoRound world a dims x seen to coords ls ks inner s
    → let loads = next (Alloc a to.cell dims memory) (load_nest a.id x coords ls) in
    let stores = store_nest a.id x coords ks in
    IfSome (then_do (run world loads s) (λ t. then_do (run world inner t) (run world stores)))
    (Follows (λ t u. AreAlike s u t) world b s)

-- the same without the store nest, of a block that does not write a
abbrev pub StagedReaderLaw : Type 0
StagedReaderLaw =
    (blind : ℕ → Bool) (world : World) (root : ℕ → ℕ) (a : Binder) (dims : List Control)
    (memory x : ℕ) (seen : Seen) (to : Shape) (coords : List Coord) (ls : List Loop) (b : Block)
    (s : State)
    → let inner = converted a.id x coords b in
    MayConvert world a.id x seen coords b s
    → IsAlone blind root a.id seen to inner s
    → numbers s.scene dims ≡ extents seen.sides
    → IsStaging a.id x seen coords ls (emptied a.id to.cell (extents seen.sides) s)
    → FitInto s seen.buffer seen.buffer
    → writes world (updated root a.id a.id) inner a.id ≡ false
    → let loads = next (Alloc a to.cell dims memory) (load_nest a.id x coords ls) in
    IfSome (then_do (run world loads s) (run world inner))
    (Follows (λ t u. AreAlike s u t) world b s)
