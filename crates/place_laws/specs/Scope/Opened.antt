-- Blocks opened at a place, and put in scopes there.
use Rattle.std.specs.Prelude.{◌≡◌, ◌⊎◌, ℕ, Bool, true, false, cond, List, [], Option, Some}
use Rattle.exo_tree.specs.Tree.{Kind, Condition, If, Block, end, next, Procedure}
use Rattle.exo_tree.specs.Context.{Context, fill, rest_of}
use Rattle.exo_meaning.specs.Calls.{Callee}
use Rattle.exo_meaning.specs.Scene.{holds}
use Rattle.exo_meaning.specs.State.{State, scoped}
use Rattle.exo_meaning.specs.Run.{World, run, unit_world}
use Rattle.exo_meaning.specs.Inputs.{IsAdmissible, Refines}
use Rattle.exo_meaning.specs.Refines.{StateRefined}
use Rattle.exo_meaning.specs.Renaming.{Renaming, re_block}
use Rattle.exo_meaning.specs.Units.{IsProcedure}
use Rattle.exo_meaning.specs.Unseen.{in_block}
use Rattle.meaning_laws.specs.Context.{ComesTo, MayReplace}
use Rattle.meaning_laws.specs.Copies.{Moves, IsFree}
use Rattle.meaning_laws.specs.Scoped.{is_param, has_binder}
use Rattle.meaning_laws.specs.Sound.{IsUnbound}
use Rattle.place_laws.specs.Scope.Scopes.{HasNone, top_binders, joined_all, scopes, AreApart}

-- ---- in a state

-- from u, the second run refines the first where both end
abbrev pub RefinesFrom : (State → Option State) → (State → Option State) → State → Type 0
RefinesFrom f g u =
    (a b : State)
    → f u ≡ Some a
    → g u ≡ Some b
    → StateRefined a b

-- a block opened may stand for what is refined by it in a scope
abbrev pub BlockMayOpen : Type 0
BlockMayOpen =
    (world : World) (old b : Block) (u : State)
    → HasNone (top_binders b) u
    → RefinesFrom (run world old) (scoped (run world b)) u
    → MayReplace world (top_binders b) old b u

-- and what refines a block in a scope may stand for this block opened
abbrev pub BlockMayClose : Type 0
BlockMayClose =
    (world : World) (b new : Block) (u : State)
    → HasNone (top_binders b) u
    → RefinesFrom (scoped (run world b)) (run world new) u
    → MayReplace world (top_binders b) b new u

-- so it is with several blocks in a row, each in a scope of its own
abbrev pub BlocksMayOpen : Type 0
BlocksMayOpen =
    (world : World) (old : Block) (bs : List Block) (u : State)
    → let hidden = top_binders (joined_all bs) in
    AreApart bs
    → HasNone hidden u
    → RefinesFrom (run world old) (scopes world bs) u
    → MayReplace world hidden old (joined_all bs) u

abbrev pub BlocksMayClose : Type 0
BlocksMayClose =
    (world : World) (bs : List Block) (new : Block) (u : State)
    → let hidden = top_binders (joined_all bs) in
    AreApart bs
    → HasNone hidden u
    → RefinesFrom (scopes world bs) (run world new) u
    → MayReplace world hidden (joined_all bs) new u

-- the branch that is taken may stand for a condition
abbrev pub BranchMayStand : Type 0
BranchMayStand =
    (world : World) (test : Condition) (a b : Block) (u : State)
    → let taken = cond (holds u.scene test) a b in
    HasNone (top_binders taken) u
    → MayReplace world (top_binders taken) (next (If test a b) end) taken u

-- a condition with a block in the one branch and a copy of it in the other may stand for the block
abbrev pub SplitMayStand : Type 0
SplitMayStand =
    (world : World) (test : Condition) (r : Renaming) (b : Block) (u : State)
    → HasNone (top_binders b) u
    → Moves r (IsUnbound u)
    → MayReplace world (top_binders b) b (next (If test b (re_block r b)) end) u

-- ---- at a place

-- names that may be left by what stands in the hole: free there, and of no use behind it
pub record MayLeave (p : Procedure) (c : Context) (hidden : ℕ → Bool) : Type 0 where
  pub free : (x : ℕ) → hidden x ≡ true → IsFree p c x
  pub unused : in_block hidden (rest_of c) ≡ false

-- a name that the procedure does not bind
abbrev pub IsNew : Procedure → ℕ → Type 0
IsNew p x = (is_param p x ≡ false) × (has_binder p.body x ≡ false)

-- a name of a scope within the block
abbrev pub IsInner : Block → ℕ → Type 0
IsInner old x = (has_binder old x ≡ true) × (top_binders old x ≡ false)

-- in a well-formed procedure these are new names and those of scopes within the old block
abbrev pub MayLeaveLaw : Type 0
MayLeaveLaw =
    (fields : ℕ → Option Kind) (memories : ℕ) (callees : ℕ → Option Callee) (p : Procedure)
    (c : Context) (old : Block) (hidden : ℕ → Bool)
    → IsProcedure fields memories callees p
    → p.body ≡ fill c old
    → ((x : ℕ) → hidden x ≡ true → IsNew p x ⊎ IsInner old x)
    → MayLeave p c hidden

-- what may stand for the old block wherever a run comes to it may be put in its place
abbrev pub LeavingRefines : Type 0
LeavingRefines =
    (kinds : ℕ → Kind) (ps : List Procedure) (c : Context) (old new : Block) (p q : Procedure)
    (hidden : ℕ → Bool)
    → let world = unit_world kinds ps in
    p.body ≡ fill c old
    → q ≡ record p { body = fill c new }
    → MayLeave p c hidden
    → ((s u : State)
    → IsAdmissible world p s
    → ComesTo world old c s u
    → HasNone hidden u
    → MayReplace world hidden old new u)
    → Refines world p q []
