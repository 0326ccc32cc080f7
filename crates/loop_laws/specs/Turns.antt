-- Turns of loops by their numbers, whatever a turn does: cut, grouped, moved, and guarded. For all
-- rules that keep the order of turns.
use Rattle.std.specs.Prelude.{◌≡◌, ◌≤◌, ◌≤ℤ◌, ℕ, ◌*◌, ℤ, pos, ◌+ℤ◌, ◌-ℤ◌, ◌*ℤ◌, int_lt}
use Rattle.std.specs.Prelude.{if◌then◌else◌, List, Option, Some}
use Rattle.exo_meaning.specs.Scene.{then_do}
use Rattle.exo_meaning.specs.State.{State}
use Rattle.exo_meaning.specs.Run.{turns, range, count}

-- what the turn of each number does
abbrev pub Turn : Type 0
Turn = ℤ → State → Option State

-- the numbers from lo on up to hi, which is not reached
abbrev pub between : ℤ → ℤ → List ℤ
between lo hi = range lo (count (hi -ℤ lo))

-- turns up to a number between the ends, and the turns from there on, are all turns
abbrev pub CutTurns : Type 0
CutTurns =
    (go : Turn) (lo e hi : ℤ) (s : State)
    → lo ≤ℤ e
    → e ≤ℤ hi
    → turns go (between lo hi) s ≡ then_do (turns go (between lo e) s) (turns go (between e hi))

-- the turns of group n, of c turns
abbrev pub group : Turn → ℕ → Turn
group go c n = turns (λ m. go ((pos c *ℤ n) +ℤ m)) (range (pos 0) c)

-- the turns of q groups are the first q * c turns
abbrev pub GroupedTurns : Type 0
GroupedTurns =
    (go : Turn) (c q : ℕ) (s : State)
    → turns (group go c) (range (pos 0) q) s ≡ turns go (range (pos 0) (q * c)) s

-- turns counted from another number
abbrev pub MovedTurns : Type 0
MovedTurns =
    (go : Turn) (d lo : ℤ) (n : ℕ) (s : State)
    → turns (λ k. go (d +ℤ k)) (range lo n) s ≡ turns go (range (d +ℤ lo) n) s

-- turns up to hi alone
abbrev pub up_to : ℤ → Turn → Turn
up_to hi go k s = if int_lt k hi then go k s else Some s

-- so many turns from 0 on, of which those up to hi do something
abbrev pub GuardedTurns : Type 0
GuardedTurns =
    (go : Turn) (hi : ℤ) (n : ℕ) (s : State)
    → count hi ≤ n
    → turns (up_to hi go) (range (pos 0) n) s ≡ turns go (range (pos 0) (count hi)) s
