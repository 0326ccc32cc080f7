-- Branches at a place of a procedure: one taken away, put round a block, or moved out of a loop.
use Rattle.std.specs.Prelude.{◌≡◌, ◌==◌, ℕ, Bool, true, false, cond, List, []}
use Rattle.exo_tree.specs.Tree.{Kind, Binder, Control, Condition, If, Block, end, next}
use Rattle.exo_tree.specs.Tree.{Procedure, ConfigField}
use Rattle.exo_tree.specs.Context.{Context, fill, rest_of}
use Rattle.exo_tree.specs.Renaming.{fresh}
use Rattle.exo_meaning.specs.Scene.{holds}
use Rattle.exo_meaning.specs.State.{State}
use Rattle.exo_meaning.specs.Run.{World, unit_world, kinds_of}
use Rattle.exo_meaning.specs.Inputs.{IsAdmissible, Refines}
use Rattle.exo_meaning.specs.Unseen.{in_condition, in_block as mentions}
use Rattle.meaning_laws.specs.Context.{ComesTo}
use Rattle.meaning_laws.specs.Fields.{CallsLeave, writes_field}
use Rattle.meaning_laws.specs.Live.{read_by_condition}
use Rattle.meaning_laws.specs.Sorted.{MayRun}
use Rattle.meaning_laws.specs.FreshCopies.{IsBelow}
use Rattle.place_laws.specs.Scope.Scopes.{top_binders}
use Rattle.place_laws.specs.Scope.UnrollLoop.{HasTurns, only_loop}

abbrev pub only_branch : Condition → Block → Block → Block
only_branch test a b = next (If test a b) end

-- wherever a run comes to the hole with this block in it, the condition is that
abbrev pub IsKnown : World → Procedure → Context → Block → Condition → Bool → Type 0
IsKnown world p c old test taken =
    (s u : State)
    → IsAdmissible world p s
    → ComesTo world old c s u
    → holds u.scene test ≡ taken

-- then the branch that is taken may stand for the condition
abbrev pub TakenBranchLaw : Type 0
TakenBranchLaw =
    (fields : List ConfigField) (memories : ℕ) (ps : List Procedure) (p : Procedure) (c : Context)
    (test : Condition) (a b : Block) (taken : Bool)
    → let world = unit_world (kinds_of fields) ps in
    MayRun fields memories ps p
    → p.body ≡ fill c (only_branch test a b)
    → IsKnown world p c (only_branch test a b) test taken
    → Refines world p (record p { body = fill c (cond taken a b) }) []

-- a loop that has no turn may be left out
abbrev pub LoopOfNone : Type 0
LoopOfNone =
    (world : World) (p : Procedure) (c : Context) (i : Binder) (lo hi : Control) (b : Block)
    → p.body ≡ fill c (only_loop i lo hi b)
    → HasTurns world p c i lo hi b []
    → Refines world p (record p { body = fill c end }) []

-- a block where a condition holds, and where not a copy of it, numbered from `first` on
abbrev pub specialized : ℕ → Condition → Block → Block
specialized first test b = only_branch test b (fresh first b)

-- may stand for the block, where what follows uses no name that the block leaves
abbrev pub SpecializeLaw : Type 0
SpecializeLaw =
    (kinds : ℕ → Kind) (ps : List Procedure) (p : Procedure) (c : Context) (test : Condition)
    (old : Block) (first : ℕ)
    → p.body ≡ fill c old
    → IsBelow first p
    → mentions (top_binders old) (rest_of c) ≡ false
    → Refines (unit_world kinds ps) p (record p { body = fill c (specialized first test old) }) []

-- a loop over the one branch, and a copy of the loop over the other
abbrev pub lifted : ℕ → Binder → Control → Control → Condition → Block → Block → Block
lifted first i lo hi test a b =
    only_branch test (only_loop i lo hi a) (fresh first (only_loop i lo hi b))

-- may stand for a loop over both, where nothing in the loop changes the condition
abbrev pub LiftLaw : Type 0
LiftLaw =
    (world : World) (calls : ℕ → ℕ → Bool) (p : Procedure) (c : Context) (i : Binder)
    (lo hi : Control) (test : Condition) (a b : Block) (first : ℕ)
    → CallsLeave world calls
    → p.body ≡ fill c (only_loop i lo hi (only_branch test a b))
    → IsBelow first p
    → in_condition (λ x. x == i.id) test ≡ false
    → ((f : ℕ)
    → read_by_condition f test ≡ true
    → writes_field calls f (only_branch test a b) ≡ false)
    → Refines world p (record p { body = fill c (lifted first i lo hi test a b) }) []
