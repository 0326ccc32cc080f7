-- The piece and the draft, by the arguments of the call.
use Rattle.std.proofs.Common.{◌≡◌, ℕ, Bool, true, false, List, Option, Some, None, refl, ap, sym}
use Rattle.std.proofs.Common.{◌∙◌, subst}
use Rattle.std.specs.Prelude.{if◌then◌else◌, option_map, Result}
use Rattle.exo_tree.specs.Tree.{Argument}
use Rattle.exo_tree.specs.Places.{Path, Opened, opened}
use Rattle.exo_meaning.specs.Unseen.{in_block as mentions}
use Rattle.exo_tree.specs.Context.{rest_of}
use Rattle.meaning_laws.specs.Scoped.{has_binder}
use Rattle.cursor_forward.specs.Causes.{Cause, WrongShape}
use Rattle.cursor_forward.specs.declared.proposal.StepError.{StepError}
use Rattle.step_driver.specs.Spots.{or_nothing}
use Rattle.step_driver.specs.Needs.Outcomes.{RefusedBy, Tries}
use Rattle.step_rules.specs.Answer.{then_try, opened_or_wrong}
use Rattle.step_rules.specs.Rule.{Tried, Got, Not, Target, Piece}
use Rattle.call_laws.specs.Replace.Rule.{is_used_after, said, replace_piece}
use Rattle.match_rewrites.specs.Unified.{unified}

-- ---- names that are used behind a piece

abbrev used : Option Opened → Option Bool
used x = option_map is_used_after x

pub used_same : (x : Option Opened) (names : ℕ → Bool) → names ≡ has_binder (or_nothing x).piece
    → option_map (λ (o : Opened). mentions names (rest_of o.around)) x ≡ used x
used_same None names h = refl
used_same (Some o) names h = ap (λ n. Some (mentions n (rest_of o.around))) h

-- ---- one after the other

pub then_refused : {T U : Type 0} (x : Tried T) (f : T → Tried U) (why : Option Cause) → RefusedBy x why
    → RefusedBy (then_try x f) why
then_refused x f None h = tt
then_refused x f (Some cause) h = ap (λ y. then_try y f) h

pub then_given : {T U : Type 0} (x : Tried T) (f : T → Tried U) (y : T) → x ≡ Got y
    → then_try x f ≡ f y
then_given x f y h = ap (λ z. then_try z f) h

module _ (k n : ℕ) (t : Target) (at : Path) where
  abbrev here : Option Opened
  here = opened n at t.proc.body

  abbrev by_use : Bool → Opened → Tried (List Argument)
  by_use b o = if b then Not WrongShape else said k t o

  abbrev answer : Option Opened → Tried (List Argument)
  answer x = then_try (opened_or_wrong x) (λ o. by_use (is_used_after o) o)

  pub nothing_there : None ≡ used here → unified k n t at ≡ Not WrongShape
  nothing_there h = by here h
    where
      by : (x : Option Opened) → None ≡ used x → answer x ≡ Not WrongShape
      by None h = refl
      by (Some o) h = cc

  pub used_behind : Some true ≡ used here → unified k n t at ≡ Not WrongShape
  used_behind h = by here h
    where
      by : (x : Option Opened) → Some true ≡ used x → answer x ≡ Not WrongShape
      by None h = refl
      by (Some o) h =
          let same : true ≡ is_used_after o = cc in ap (λ b. by_use b o) (sym same)

  unused_is : Some false ≡ used here → unified k n t at ≡ said k t (or_nothing here)
  unused_is h = by here h
    where
      by : (x : Option Opened) → Some false ≡ used x → answer x ≡ said k t (or_nothing x)
      by None h = cc
      by (Some o) h =
          let same : false ≡ is_used_after o = cc in ap (λ b. by_use b o) (sym same)

  pub unused : {X : Type 0} (plain : X → List Argument) (r : Result X StepError)
      → Some false ≡ used here
      → Tries plain (said k t (or_nothing here)) r
      → Tries plain (unified k n t at) r
  unused plain r h tries = subst (λ x. Tries plain x r) (sym (unused_is h)) tries

  -- ---- the piece

  abbrev those : Piece
  those = record { path = at; count = n }

  abbrev piece_by : Option Opened → Tried Piece
  piece_by x =
      then_try (opened_or_wrong x) (λ o.
      if is_used_after o then Not WrongShape else then_try (said k t o) (λ args. Got those))

  piece_is : replace_piece k n t at ≡ then_try (unified k n t at) (λ args. Got those)
  piece_is = by here
    where
      at_use : (o : Opened) (b : Bool)
          → (if b then Not WrongShape else then_try (said k t o) (λ args. Got those))
          ≡ then_try (by_use b o) (λ args. Got those)
      at_use o true = refl
      at_use o false = refl

      by : (x : Option Opened) → piece_by x ≡ then_try (answer x) (λ args. Got those)
      by None = refl
      by (Some o) = at_use o (is_used_after o)

  pub piece_got : (args : List Argument) → unified k n t at ≡ Got args
      → replace_piece k n t at ≡ Got those
  piece_got args h = piece_is ∙ ap (λ x. then_try x (λ args. Got those)) h

  pub piece_not : (why : Option Cause) → RefusedBy (unified k n t at) why
      → RefusedBy (replace_piece k n t at) why
  piece_not why h =
      subst (λ x. RefusedBy x why) (sym piece_is)
      (then_refused (unified k n t at) (λ args. Got those) why h)
