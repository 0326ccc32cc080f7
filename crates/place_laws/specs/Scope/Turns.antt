-- Scopes in the turns of a loop.
use Rattle.std.specs.Prelude.{◌≡◌, ◌==◌, ℕ, ℤ, Bool, true, false, List}
use Rattle.exo_tree.specs.Tree.{Binder, Control, Condition, If, For, Block, end, next, joined}
use Rattle.exo_meaning.specs.Scene.{holds, then_do}
use Rattle.exo_meaning.specs.State.{State, scoped, on_scene, with_control}
use Rattle.exo_meaning.specs.Run.{World, run, turn, turns, turns_of}
use Rattle.exo_meaning.specs.Unseen.{in_condition, in_block}
use Rattle.meaning_laws.specs.Context.{ComesToTurn}
use Rattle.meaning_laws.specs.Fields.{CallsLeave, writes_field}
use Rattle.meaning_laws.specs.Live.{read_by_condition}
use Rattle.meaning_laws.specs.Sound.{IsSound}
use Rattle.place_laws.specs.Scope.Scopes.{HasNone, top_binders}

-- turns of two blocks are turns of the first, each followed by one of the second
abbrev pub SplitTurns : Type 0
SplitTurns =
    (world : World) (i : ℕ) (a b : Block) (ns : List ℤ) (s : State)
    → in_block (top_binders a) b ≡ false
    → top_binders a i ≡ false
    → HasNone (top_binders a) s
    → turns (turn i (run world (joined a b))) ns s
    ≡ turns (λ n t. then_do (turn i (run world a) n t) (turn i (run world b) n)) ns s

-- a block that leaves no name does the same in a scope of its own
abbrev pub ScopeOfNone : Type 0
ScopeOfNone =
    (world : World) (b : Block) (s : State)
    → IsSound s
    → ((x : ℕ) → top_binders b x ≡ false)
    → scoped (run world b) s ≡ run world b s

-- in each turn that a loop comes to, the condition is what it is before the loop
abbrev pub IsSteadyIn : World → Binder → Control → Control → Block → Condition → State → Type 0
IsSteadyIn world i lo hi body test s =
    (n : ℤ) (u : State)
    → ComesToTurn (turn i.id (run world body)) (turns_of s.scene lo hi) s n u
    → holds (on_scene (with_control i.id n) u).scene test ≡ holds s.scene test

-- so it is where the condition lacks the variable and the body writes no field that it reads
abbrev pub SteadyInLoop : Type 0
SteadyInLoop =
    (world : World) (calls : ℕ → ℕ → Bool) (i : Binder) (lo hi : Control) (body : Block)
    (test : Condition) (s : State)
    → CallsLeave world calls
    → in_condition (λ x. x == i.id) test ≡ false
    → ((f : ℕ) → read_by_condition f test ≡ true → writes_field calls f body ≡ false)
    → IsSteadyIn world i lo hi body test s

-- then a condition that is all of the loop may stand round a loop over each branch
abbrev pub LiftBranch : Type 0
LiftBranch =
    (world : World) (i : Binder) (lo hi : Control) (test : Condition) (a b : Block) (s : State)
    → let body = next (If test a b) end in
    IsSound s
    → IsSteadyIn world i lo hi body test s
    → run world (next (For i lo hi body) end) s
    ≡ run world (next (If test (next (For i lo hi a) end) (next (For i lo hi b) end)) end) s

-- and a branch that is missing stays missing
abbrev pub LiftThen : Type 0
LiftThen =
    (world : World) (i : Binder) (lo hi : Control) (test : Condition) (a : Block) (s : State)
    → let body = next (If test a end) end in
    IsSound s
    → IsSteadyIn world i lo hi body test s
    → run world (next (For i lo hi body) end) s
    ≡ run world (next (If test (next (For i lo hi a) end) end) end) s

-- two conditions of which the one is all of the other may change places
abbrev pub SwapBranches : Type 0
SwapBranches =
    (world : World) (test other : Condition) (b : Block) (s : State)
    → run world (next (If test (next (If other b end) end) end) end) s
    ≡ run world (next (If other (next (If test b end) end) end) end) s
