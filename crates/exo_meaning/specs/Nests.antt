-- Two loops, one in the other.
use Rattle.std.specs.Prelude.{◌≡◌, ◌<ℤ◌, ℕ, ℤ, false, ◌==◌, Option}
use Rattle.exo_tree.specs.Tree.{Binder, Control, Statement, For, Block, end, next}
use Rattle.exo_meaning.specs.State.{State, with_control}
use Rattle.exo_meaning.specs.Run.{World, run, step, turn, turns_of}
use Rattle.exo_meaning.specs.Footprint.{IsTidy}
use Rattle.exo_meaning.specs.Orders.{Stays, Exchange, HasScene, Crosses}

-- one turn of both loops
abbrev pub both_turns : ℕ → ℕ → (State → Option State) → ℤ × ℤ → State → Option State
both_turns i j body p = turn i (turn j body p.1) p.0

-- the names and fields are those of s, and nothing else holds a value
abbrev pub IsAt : State → State → Type 0
IsAt s t = HasScene s.scene t × IsTidy t

abbrev pub nest : Binder → Control → Control → Binder → Control → Control → Block → Statement
nest i lo hi j c d b = For i lo hi (next (For j c d b) end)

-- a nest may be turned round where its bounds do not depend on the other variable, its turns write
-- no field, and each exchanged pair of turns commutes
abbrev pub LoopsReorder : Type 0
LoopsReorder =
    (world : World) (i j : Binder) (lo hi c d : Control) (b : Block) (s : State)
    → (i.id == j.id) ≡ false
    → IsTidy s
    → ((n : ℤ) → turns_of (with_control i.id n s.scene) c d ≡ turns_of s.scene c d)
    → ((n : ℤ) → turns_of (with_control j.id n s.scene) lo hi ≡ turns_of s.scene lo hi)
    → Stays (IsAt s) (both_turns i.id j.id (run world b))
    → ((p q : ℤ × ℤ)
    → Crosses ◌<ℤ◌ ◌<ℤ◌ p q
    → Exchange (IsAt s) (both_turns i.id j.id (run world b)) p q)
    → step world (nest i lo hi j c d b) s ≡ step world (nest j c d i lo hi b) s
