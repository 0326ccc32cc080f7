-- Loops whose turns are those of another loop, with an expression for its variable.
use Rattle.std.specs.Prelude.{◌≡◌, ℕ, ◌*◌, ℤ, pos, ◌+ℤ◌, ◌-ℤ◌, ◌*ℤ◌, Bool, true, false}
use Rattle.std.specs.Prelude.{None, option_map}
use Rattle.exo_tree.specs.Tree.{Binder, Control, Lit, Block}
use Rattle.exo_tree.specs.Substitution.{in_block}
use Rattle.exo_meaning.specs.Scene.{number}
use Rattle.exo_meaning.specs.State.{State, left, on_scene, with_control}
use Rattle.exo_meaning.specs.Run.{World, run, turn, turns, range, count}
use Rattle.exo_meaning.specs.Unseen.{in_block as mentions, SameBut}
use Rattle.meaning_laws.specs.Sound.{IsSound}
use Rattle.meaning_laws.specs.Substitute.{is_plain, catches, bound}
use Rattle.place_laws.specs.Scope.UnrollLoop.{only_loop}
use Rattle.place_laws.specs.Scope.Unrolled.{HasNamesOf}
use Rattle.loop_laws.specs.Turns.{Turn}

-- e may stand for the variable in the body
abbrev pub MayStandIn : ℕ → Control → Block → Type 0
MayStandIn i e b = (is_plain e ≡ true) × (catches i e b ≡ false)

-- ---- one turn

-- the state in which the variable is that number
abbrev pub at_turn : ℕ → ℤ → State → State
at_turn i n s = on_scene (with_control i n) s

-- the body with e for the variable, in a state that differs from s at names of which the body uses
-- none and s has none, leaves to s what the turn of the number of e does
abbrev pub SubstitutedTurn : Type 0
SubstitutedTurn =
    (world : World) (hidden : ℕ → Bool) (i : ℕ) (e : Control) (b : Block) (s w : State)
    → let n = number w.scene e in
    MayStandIn i e b
    → mentions hidden b ≡ false
    → ((x : ℕ) → hidden x ≡ true → s.scene.buffers x ≡ None)
    → SameBut hidden (bound i e w) (at_turn i n s)
    → option_map (left s) (run world (in_block i e b) w) ≡ turn i (run world b) n s

-- ---- counted from another number

-- e is that much more than the variable, wherever the other names are those of s
abbrev pub IsMovedBy : ℕ → ℤ → Control → State → Type 0
IsMovedBy i d e s =
    (t : State) (n : ℤ)
    → HasNamesOf s t
    → number (at_turn i n t).scene e ≡ d +ℤ n

-- with e for its variable a loop has the turns behind those numbers
abbrev pub MovedLoop : Type 0
MovedLoop =
    (world : World) (i : Binder) (lo hi e : Control) (b : Block) (d : ℤ) (s : State)
    → let first = number s.scene lo in
    IsSound s
    → MayStandIn i.id e b
    → IsMovedBy i.id d e s
    → run world (only_loop i lo hi (in_block i.id e b)) s
    ≡ turns (turn i.id (run world b)) (range (d +ℤ first) (count (number s.scene hi -ℤ first))) s

-- ---- in groups

-- so many groups of c turns of a block
abbrev pub nested : Binder → Binder → Control → ℤ → Block → Block
nested a j groups c b =
    only_loop a (Lit (pos 0)) groups (only_loop j (Lit (pos 0)) (Lit c) b)

-- turn m of group n of the block leaves what turn c * n + m does, wherever the names are those of s
abbrev pub AreGroupsOf : World → Turn → ℕ → ℕ → ℕ → Block → State → Type 0
AreGroupsOf world go a j c b s =
    (t : State) (n m : ℤ)
    → HasNamesOf s t
    → option_map (left t) (run world b (at_turn j m (at_turn a n t))) ≡ go ((pos c *ℤ n) +ℤ m) t

-- then all groups are the first turns
abbrev pub GroupedLoop : Type 0
GroupedLoop =
    (world : World) (go : Turn) (a j : Binder) (groups : Control) (c : ℕ) (b : Block) (s : State)
    → IsSound s
    → AreGroupsOf world go a.id j.id c b s
    → run world (nested a j groups (pos c) b) s
    ≡ turns go (range (pos 0) (count (number s.scene groups) * c)) s
