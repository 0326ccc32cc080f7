-- What makes a call inlinable: the rules of a unit, and the state at the place.
use Rattle.std.specs.Prelude.{◌≡◌, ℕ, Bool, true, false, List, ◌∷◌, ◌++◌, Some}
use Rattle.exo_tree.specs.Tree.{Kind, Argument, Block, Procedure}
use Rattle.exo_tree.specs.Context.{Context, rest_of}
use Rattle.exo_meaning.specs.State.{State}
use Rattle.exo_meaning.specs.Calls.{Given, all_given}
use Rattle.exo_meaning.specs.Run.{World, unit_world}
use Rattle.exo_meaning.specs.Inputs.{IsAdmissible}
use Rattle.exo_meaning.specs.Renaming.{Renaming}
use Rattle.exo_meaning.specs.Unseen.{in_block as mentions}
use Rattle.meaning_laws.specs.Context.{ComesTo}
use Rattle.meaning_laws.specs.Copies.{IsFree}
use Rattle.meaning_laws.specs.Scoped.{has_binder}
use Rattle.inplace_laws.specs.Above.{size}
use Rattle.inplace_laws.specs.CallInPlace.{AreDistinct, HaveTypes, no_name}
use Rattle.inplace_laws.specs.InPlace.{makes}
use Rattle.inplace_laws.specs.Inline.{inlined, TakesAll, is_param, not_own, MayInline}
use Rattle.inplace_laws.specs.Uses.{in_block as uses}
use Rattle.match_laws.specs.RenamedCallee.{re_procedure}

-- of the trees alone. own: the names of the callee, which has other ids than the caller
pub record IsInlinable (own : ℕ → Bool) (p q : Procedure) (c : Context) (args : List Argument)
    : Type 0 where
  pub names : uses (not_own own) no_name q.body ≡ false
  pub params : (x : ℕ) → is_param q x ≡ true → (own x ≡ true) × (makes q.body x ≡ false)
  pub distinct : AreDistinct q.params
  pub takes : TakesAll (is_param q) q.params args q.body
  pub free : (x : ℕ) → own x ≡ true → IsFree p c x
  pub others : (x : ℕ)
      → own x ≡ false
      → (is_param q x ≡ false) × (has_binder (inlined q.params args q.body) x ≡ false)
  pub gone : mentions (is_param q) (inlined q.params args q.body) ≡ false
  pub rest : mentions own (rest_of c) ≡ false

-- at each state that comes to the place arguments have the types of their parameters
abbrev pub StandThere : World → Procedure → Procedure → Context → Block → List Argument → Type 0
StandThere world p q c old args =
    (s u : State)
    → IsAdmissible world p s
    → ComesTo world old c s u
    → (gs : List Given)
    → all_given u.scene args ≡ Some gs
    → HaveTypes u q.params gs

-- a callee of the unit, with other ids, may be inlined
abbrev pub InlineConditions : Type 0
InlineConditions =
    (kinds : ℕ → Kind) (before : List Procedure) (callee : Procedure) (after : List Procedure)
    (r : Renaming) (own : ℕ → Bool) (p : Procedure) (c : Context) (old : Block)
    (args : List Argument)
    → let above = unit_world kinds before in
    let world = unit_world kinds (before ++ callee ∷ after) in
    let q = re_procedure r callee in
    IsInlinable own p q c args
    → StandThere world p q c old args
    → MayInline world above own p q c old (size before) args
