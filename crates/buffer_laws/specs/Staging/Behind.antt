-- The nest behind a block.
use Rattle.std.specs.Prelude.{◌≡◌, ℕ, Bool, true, false, List, Some}
use Rattle.exo_tree.specs.Tree.{Binder, Control, Coord, Alloc, Block, next}
use Rattle.exo_meaning.specs.Scene.{Shape, Seen, numbers, extents, then_do}
use Rattle.exo_meaning.specs.State.{State, on_scene, with_view}
use Rattle.exo_meaning.specs.Refines.{Both}
use Rattle.exo_meaning.specs.Run.{World, run}
use Rattle.meaning_laws.specs.Scoped.{has_binder}
use Rattle.meaning_laws.specs.Sound.{IsSound}
use Rattle.inplace_laws.specs.Filled.{Loop}
use Rattle.inplace_laws.specs.Windows.{are_plain, coords_have}
use Rattle.inplace_laws.specs.Staged.{staged}
use Rattle.buffer_laws.specs.Staging.Stores.{load_nest, store_nest, IsStaging, FitInto, emptied}
use Rattle.buffer_laws.specs.Staging.Inside.{AreOverSpans}
use Rattle.buffer_laws.specs.Staging.Alone.{IsAlone}
use Rattle.buffer_laws.specs.Staging.Stage.{AreAlike}

-- the block binds none of the names that the nests use
pub record IsBetween (a x : ℕ) (seen : Seen) (coords : List Coord) (b : Block) : Type 0 where
  pub own : has_binder b a ≡ false
  pub name : has_binder b x ≡ false
  pub root : has_binder b seen.buffer ≡ false
  pub plain : are_plain coords ≡ true
  pub variables : (y : ℕ) → coords_have coords y ≡ true → has_binder b y ≡ false

-- then the nest behind it finds what the nest before it found
abbrev pub BehindLaw : Type 0
BehindLaw =
    (world : World) (a x : ℕ) (seen : Seen) (coords : List Coord) (ls : List Loop) (b : Block)
    (s t : State)
    → IsSound s
    → IsStaging a x seen coords ls s
    → IsBetween a x seen coords b
    → run world b s ≡ Some t
    → AreOverSpans ls coords t.scene
    → IsStaging a x seen coords ls t

-- ---- the whole, from what is known at the place

pub record MayGoRound (world : World) (a : Binder) (dims : List Control) (x : ℕ) (seen : Seen)
    (to : Shape) (coords : List Coord) (ls ks : List Loop) (b : Block) (s : State) : Type 0 where
  pub sizes : numbers s.scene dims ≡ extents seen.sides
  pub before : IsStaging a.id x seen coords ls (emptied a.id to.cell (extents seen.sides) s)
  pub again : IsStaging a.id x seen coords ks (emptied a.id to.cell (extents seen.sides) s)
  pub fit : FitInto s seen.buffer seen.buffer
  pub between : IsBetween a.id x seen coords b
  pub behind : (t : State) → run world b (staged a.id seen to s) ≡ Some t →
      AreOverSpans ks coords t.scene × FitInto t a.id seen.buffer

-- StageLaw for a block that uses no other name of the window's root
abbrev pub RoundLaw : Type 0
RoundLaw =
    (blind : ℕ → Bool) (world : World) (root : ℕ → ℕ) (a : Binder) (dims : List Control)
    (memory x : ℕ) (seen : Seen) (to : Shape) (coords : List Coord) (ls ks : List Loop)
    (b : Block) (s : State)
    → IsAlone blind root a.id seen to b s
    → MayGoRound world a dims x seen to coords ls ks b s
    → let loads = next (Alloc a to.cell dims memory) (load_nest a.id x coords ls) in
    let stores = store_nest a.id x coords ks in
    Both (AreAlike s)
    (then_do (run world loads s) (λ t. then_do (run world b t) (run world stores)))
    (run world b (on_scene (with_view a.id seen) s))
