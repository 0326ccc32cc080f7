-- An allocation in a loop or branch, put before it.
use Rattle.std.specs.Prelude.{◌≡◌, ◌==◌, ◌&&◌, ℕ, Bool, true, false, List, [], ◌∷◌}
use Rattle.exo_tree.specs.Tree.{Binder, Control, Condition, If, Block, end, next, joined}
use Rattle.exo_tree.specs.Tree.{Kind, Procedure}
use Rattle.exo_tree.specs.Context.{Context, fill}
use Rattle.exo_meaning.specs.State.{State}
use Rattle.exo_meaning.specs.Refines.{StateRefined, CalleesRespect}
use Rattle.exo_meaning.specs.Inputs.{Refines}
use Rattle.exo_meaning.specs.Run.{World, unit_world}
use Rattle.exo_meaning.specs.Unseen.{in_control, in_controls, in_condition, in_block as mentions}
use Rattle.meaning_laws.specs.Context.{MayReplace}
use Rattle.meaning_laws.specs.Substitute.{is_plain}
use Rattle.place_laws.specs.Scope.Opened.{MayLeave}
use Rattle.place_laws.specs.Scope.Scopes.{HasNone, top_binders}
use Rattle.buffer_laws.specs.Buffers.{Buffer, allocation, is_buffer}
use Rattle.place_laws.specs.Scope.UnrollLoop.{only_loop}

abbrev pub are_plain : List Control → Bool
are_plain [] = true
are_plain (e ∷ es) = is_plain e && are_plain es

-- a block with an allocation between two others, and without it
abbrev pub with_buffer_in : Block → Buffer → Block → Block
with_buffer_in before x behind = joined before (next (allocation x) behind)

abbrev pub without_buffer_in : Block → Block → Block
without_buffer_in before behind = joined before behind

-- ---- out of a loop

abbrev pub lifted_from_loop : Binder → Control → Control → Block → Buffer → Block → Block
lifted_from_loop i lo hi before x behind =
    next (allocation x) (only_loop i lo hi (without_buffer_in before behind))

-- x is new, what stands before it does not mention it, and its dimensions have the numbers there
-- that they have before the loop or branch, in which these names are changed
pub record MayLift (changed : ℕ → Bool) (before : Block) (x : Buffer) (s : State) : Type 0 where
  pub none : HasNone (is_buffer x) s
  pub unused : mentions (is_buffer x) before ≡ false
  pub plain : are_plain x.dims ≡ true
  pub kept : in_controls changed x.dims ≡ false
  pub made : in_controls (top_binders before) x.dims ≡ false

-- an earlier turn leaves something in the cells of the one where the other has undefined ones
abbrev pub LiftFromLoop : Type 0
LiftFromLoop =
    (world : World) (i : Binder) (lo hi : Control) (before : Block) (x : Buffer) (behind : Block)
    (s : State)
    → CalleesRespect StateRefined world
    → MayLift (λ y. y == i.id) before x s
    → in_control (is_buffer x) lo ≡ false
    → in_control (is_buffer x) hi ≡ false
    → MayReplace world (is_buffer x) (only_loop i lo hi (with_buffer_in before x behind))
    (lifted_from_loop i lo hi before x behind) s

-- ---- out of a branch

abbrev pub branch_with : Condition → Block → Block → Block
branch_with c a b = next (If c a b) end

abbrev pub lifted_from_then : Condition → Block → Buffer → Block → Block → Block
lifted_from_then c before x behind other =
    next (allocation x) (branch_with c (without_buffer_in before behind) other)

abbrev pub lifted_from_else : Condition → Block → Block → Buffer → Block → Block
lifted_from_else c other before x behind =
    next (allocation x) (branch_with c other (without_buffer_in before behind))

-- no name is changed on the way into a branch
abbrev pub LiftFromThen : Type 0
LiftFromThen =
    (world : World) (c : Condition) (before : Block) (x : Buffer) (behind other : Block)
    (s : State)
    → CalleesRespect StateRefined world
    → MayLift (λ y. false) before x s
    → in_condition (is_buffer x) c ≡ false
    → mentions (is_buffer x) other ≡ false
    → MayReplace world (is_buffer x) (branch_with c (with_buffer_in before x behind) other)
    (lifted_from_then c before x behind other) s

abbrev pub LiftFromElse : Type 0
LiftFromElse =
    (world : World) (c : Condition) (other before : Block) (x : Buffer) (behind : Block)
    (s : State)
    → CalleesRespect StateRefined world
    → MayLift (λ y. false) before x s
    → in_condition (is_buffer x) c ≡ false
    → mentions (is_buffer x) other ≡ false
    → MayReplace world (is_buffer x) (branch_with c other (with_buffer_in before x behind))
    (lifted_from_else c other before x behind) s

-- ---- at a place

-- where a run comes to the loop, the allocation may be lifted
abbrev pub LiftLaw : Type 0
LiftLaw =
    (kinds : ℕ → Kind) (ps : List Procedure) (p : Procedure) (c : Context) (i : Binder)
    (lo hi : Control) (before : Block) (x : Buffer) (behind : Block)
    → let world = unit_world kinds ps in
    let old = only_loop i lo hi (with_buffer_in before x behind) in
    let new = lifted_from_loop i lo hi before x behind in
    p.body ≡ fill c old
    → MayLeave p c (is_buffer x)
    → mentions (is_buffer x) before ≡ false
    → are_plain x.dims ≡ true
    → in_controls (λ y. y == i.id) x.dims ≡ false
    → in_controls (top_binders before) x.dims ≡ false
    → in_control (is_buffer x) lo ≡ false
    → in_control (is_buffer x) hi ≡ false
    → Refines world p (record p { body = fill c new }) []

-- and where it comes to the `if`
abbrev pub LiftThenLaw : Type 0
LiftThenLaw =
    (kinds : ℕ → Kind) (ps : List Procedure) (p : Procedure) (c : Context) (test : Condition)
    (before : Block) (x : Buffer) (behind other : Block)
    → p.body ≡ fill c (branch_with test (with_buffer_in before x behind) other)
    → MayLeave p c (is_buffer x)
    → mentions (is_buffer x) before ≡ false
    → are_plain x.dims ≡ true
    → in_controls (top_binders before) x.dims ≡ false
    → in_condition (is_buffer x) test ≡ false
    → mentions (is_buffer x) other ≡ false
    → Refines (unit_world kinds ps) p
    (record p { body = fill c (lifted_from_then test before x behind other) }) []

abbrev pub LiftElseLaw : Type 0
LiftElseLaw =
    (kinds : ℕ → Kind) (ps : List Procedure) (p : Procedure) (c : Context) (test : Condition)
    (other before : Block) (x : Buffer) (behind : Block)
    → p.body ≡ fill c (branch_with test other (with_buffer_in before x behind))
    → MayLeave p c (is_buffer x)
    → mentions (is_buffer x) before ≡ false
    → are_plain x.dims ≡ true
    → in_controls (top_binders before) x.dims ≡ false
    → in_condition (is_buffer x) test ≡ false
    → mentions (is_buffer x) other ≡ false
    → Refines (unit_world kinds ps) p
    (record p { body = fill c (lifted_from_else test other before x behind) }) []
