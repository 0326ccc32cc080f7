-- Blocks in scopes of their own, and the same blocks opened.
use Rattle.std.specs.Prelude.{◌≡◌, ℕ, ℤ, Bool, true, false, ◌||◌, cond, List, [], ◌∷◌, Option, ⊤}
use Rattle.exo_tree.specs.Tree.{Condition, If, Block, end, next, joined}
use Rattle.exo_meaning.specs.Scene.{holds, then_do}
use Rattle.exo_meaning.specs.State.{State, scoped}
use Rattle.exo_meaning.specs.Run.{World, run, turn, turns}
use Rattle.exo_meaning.specs.Refines.{Both}
use Rattle.exo_meaning.specs.Unseen.{in_block, SameBut}
use Rattle.meaning_laws.specs.Sound.{IsSound, IsUnbound, binds}

-- the names that a block leaves to what follows it
abbrev pub top_binders : Block → ℕ → Bool
top_binders end y = false
top_binders (next a b) y = binds a y || top_binders b y

-- a sound state in which these names stand for nothing
pub record HasNone (hidden : ℕ → Bool) (s : State) : Type 0 where
  pub sound : IsSound s
  pub unbound : (x : ℕ) → hidden x ≡ true → IsUnbound s x

-- the two states differ at these names and cells alone, of which the first has none
pub record LeftBut (hidden : ℕ → Bool) (s t : State) : Type 0 where
  pub alike : SameBut hidden s t
  pub none : HasNone hidden s

-- ---- one block

-- a block in a scope of its own and the same block opened differ at its top binders alone
abbrev pub OpenScope : Type 0
OpenScope =
    (world : World) (b : Block) (s : State)
    → HasNone (top_binders b) s
    → Both (LeftBut (top_binders b)) (scoped (run world b) s) (run world b s)

-- ---- blocks in a row

abbrev pub joined_all : List Block → Block
joined_all [] = end
joined_all (b ∷ bs) = joined b (joined_all bs)

-- each in a scope of its own
abbrev pub scopes : World → List Block → State → Option State
scopes world = turns (λ b. scoped (run world b))

-- no block mentions a name that one before it leaves
abbrev pub AreApart : List Block → Type 0
AreApart [] = ⊤
AreApart (b ∷ bs) = (in_block (top_binders b) (joined_all bs) ≡ false) × AreApart bs

-- scopes within a scope are of no account
abbrev pub JoinScopes : Type 0
JoinScopes =
    (world : World) (bs : List Block) (s : State)
    → AreApart bs
    → HasNone (top_binders (joined_all bs)) s
    → scopes world bs s ≡ scoped (run world (joined_all bs)) s

-- blocks each in a scope of its own and all of them opened differ at their top binders alone
abbrev pub OpenScopes : Type 0
OpenScopes =
    (world : World) (bs : List Block) (s : State)
    → AreApart bs
    → HasNone (top_binders (joined_all bs)) s
    → Both (LeftBut (top_binders (joined_all bs))) (scopes world bs s) (run world (joined_all bs) s)

-- ---- a branch, and the turn of a loop

-- a scope that is all of a scope is of no account
abbrev pub ScopeTwice : Type 0
ScopeTwice = (body : State → Option State) (s : State) → scoped (scoped body) s ≡ scoped body s

-- nor is one that is all of a turn
abbrev pub ScopeInTurn : Type 0
ScopeInTurn =
    (i : ℕ) (body : State → Option State) (n : ℤ) (s : State)
    → turn i (scoped body) n s ≡ turn i body n s

-- a branch is a block in a scope of its own
abbrev pub BranchIsScope : Type 0
BranchIsScope =
    (world : World) (test : Condition) (a b : Block) (s : State)
    → run world (next (If test a b) end) s ≡ scoped (run world (cond (holds s.scene test) a b)) s

-- a turn of two blocks is a turn of the first and then one of the second
abbrev pub SplitTurn : Type 0
SplitTurn =
    (world : World) (i : ℕ) (a b : Block) (n : ℤ) (s : State)
    → in_block (top_binders a) b ≡ false
    → top_binders a i ≡ false
    → HasNone (top_binders a) s
    → turn i (run world (joined a b)) n s
    ≡ then_do (turn i (run world a) n s) (turn i (run world b) n)
