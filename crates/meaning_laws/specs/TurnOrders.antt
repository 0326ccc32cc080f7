-- The turns of one loop in another order.
use Rattle.std.specs.Prelude.{◌≡◌, ◌≤ℤ◌, ◌<ℤ◌, ℤ, List}
use Rattle.exo_tree.specs.Tree.{Binder, Control, For, Block}
use Rattle.exo_meaning.specs.Scene.{Scene, number}
use Rattle.exo_meaning.specs.State.{State}
use Rattle.exo_meaning.specs.Run.{World, run, step, turn, turns, turns_of}
use Rattle.exo_meaning.specs.Footprint.{IsTidy}
use Rattle.exo_meaning.specs.Orders.{Reorders, Exchange}
use Rattle.exo_meaning.specs.Nests.{IsAt}
use Rattle.meaning_laws.specs.Pairs.{LeavesFields}

abbrev pub IsWithin : Scene → Control → Control → ℤ → Type 0
IsWithin scene lo hi n = (number scene lo ≤ℤ n) × (n <ℤ number scene hi)

-- two turns within the bounds that may be run in either order, wherever the names and fields are
-- those of s
abbrev pub MaySwap : World → Binder → Control → Control → Block → State → ℤ → ℤ → Type 0
MaySwap world i lo hi b s m n =
    IsWithin s.scene lo hi m
    × (IsWithin s.scene lo hi n × Exchange (IsAt s) (turn i.id (run world b)) m n)

-- a loop whose body writes no field does what its turns do in any order that is reached by
-- exchanging such turns, faults included
abbrev pub TurnsMayBePermuted : Type 0
TurnsMayBePermuted =
    (world : World) (i : Binder) (lo hi : Control) (b : Block) (s : State) (ms : List ℤ)
    → IsTidy s
    → LeavesFields world b
    → Reorders (MaySwap world i lo hi b s) (turns_of s.scene lo hi) ms
    → turns (turn i.id (run world b)) ms s ≡ step world (For i lo hi b) s
