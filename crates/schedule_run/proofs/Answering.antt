-- What calls below say of a step, as answers here.
use Rattle.std.proofs.Common.{◌≡◌, List, [], ◌∷◌, ◌++◌, length, Bool, true, false}
use Rattle.std.proofs.Common.{Option, Some, None, refl, sym, ap, ◌∙◌}
use Rattle.std.specs.Prelude.{Err, if◌then◌else◌}
use Rattle.affine_forms.specs.declared.error.FormError.TheVariants as form
use Rattle.affine_systems.specs.Outcomes.{Owed}
use Rattle.exo_tree.specs.Tree.{Procedure, Program}
use Rattle.affine_prover.specs.Elimination.{elimination}
use Rattle.ob_check.specs.Answers.{is_refused}
use Rattle.bounds_check.specs.Obligations.{list_fault, obligations_of}
use Rattle.bounds_check.specs.Outcomes.{IsRefusal}
use Rattle.bounds_check.specs.declared.error.CheckError.{CheckError}
use Rattle.bounds_check.specs.declared.error.CheckError.TheVariants as check
use Rattle.unit_check.specs.Checked as unit_check
use Rattle.unit_check.specs.Checked.{first_open}
use Rattle.unit_check.specs.Outcomes.{Shows}
use Rattle.unit_check.specs.declared.refused.Why as shown
use Rattle.unit_check.specs.declared.refused.Why.TheVariants as shown_why
use Rattle.cursor_forward.specs.PlainProposal.{cause_of}
use Rattle.cursor_forward.specs.declared.proposal.StepError.{StepError}
use Rattle.cursor_forward.specs.declared.proposal.StepError.TheVariants as step
use Rattle.step_rules.specs.Rule.{Tried}
use Rattle.step_driver.specs.Outcomes.{RefusedBy}
use Rattle.schedule_run.specs.Planned as plans
use Rattle.schedule_run.specs.Planned.{Not, as_tried}
use Rattle.schedule_run.specs.Planned.{counted, listed, owed_with}
use Rattle.schedule_run.specs.PlainWhy.{Says, why_of_step, why_of_list, why_of_show}

-- ---- a step that is refused

pub step_refused : {T : Type 0} (tried : Tried T) (e : StepError) → RefusedBy tried (cause_of e)
    → Says (λ why. as_tried tried ≡ Not why) (why_of_step e)
step_refused tried step.WrongShape h = ap as_tried h
step_refused tried step.OutOfScope h = ap as_tried h
step_refused tried step.NameTaken h = ap as_tried h
step_refused tried step.LimitPassed h = ap as_tried h
step_refused tried step.ConfigWrite h = ap as_tried h
step_refused tried step.ConfigLive h = ap as_tried h
step_refused tried step.NotIdempotent h = ap as_tried h
step_refused tried step.Aliased h = ap as_tried h
step_refused tried step.StrideUsed h = ap as_tried h
step_refused tried step.NotOnlyReduced h = ap as_tried h
step_refused tried step.StillUsed h = ap as_tried h
step_refused tried step.NotDescendant h = ap as_tried h
step_refused tried step.SharedArgument h = ap as_tried h
step_refused tried (step.NoMatch path) h = ap as_tried h
step_refused tried (step.Undetermined name) h = ap as_tried h
step_refused tried (step.Form form.WideNumber) h = ap as_tried h
step_refused tried (step.Form form.TooManyCases) h = ap as_tried h
step_refused tried (step.Form form.SystemTooLarge) h = ap as_tried h
step_refused tried (step.Form form.TooManySystems) h = ap as_tried h
step_refused tried (step.Form form.Memory) h = tt
step_refused tried step.Memory h = tt

-- ---- what is owed

none_some : {A : Type 0} {x : A} → Some x ≡ None → ⊥
none_some h = cc

-- one obligation more, by whether it is open
abbrev with_one : Bool → Owed → Option unit_check.Cause → Option unit_check.Cause
with_one b o rest =
    if b then Some (unit_check.NotShown o.what o.place (elimination o.system)) else rest

none_open : (b : Bool) (o : Owed) (rest all more : Option unit_check.Cause)
    → with_one b o rest ≡ None → (rest ≡ None → all ≡ more) → with_one b o all ≡ more
none_open true o rest all more h on = absurd (none_some h)
none_open false o rest all more h on = on h

pub open_in : (os more : List Owed) → first_open os ≡ None
    → first_open (os ++ more) ≡ first_open more
open_in [] more h = refl
open_in (o ∷ os) more h =
    none_open (is_refused (elimination o.system)) o (first_open os) (first_open (os ++ more))
    (first_open more) h (open_in os more)

one_open : (b : Bool) (o : Owed) (rest all : Option unit_check.Cause) (c : unit_check.Cause)
    → with_one b o rest ≡ Some c → (rest ≡ Some c → all ≡ Some c) → with_one b o all ≡ Some c
one_open true o rest all c h on = h
one_open false o rest all c h on = on h

pub first_stays : (os more : List Owed) (c : unit_check.Cause) → first_open os ≡ Some c
    → first_open (os ++ more) ≡ Some c
first_stays [] more c h = absurd (none_some (sym h))
first_stays (o ∷ os) more c h =
    one_open (is_refused (elimination o.system)) o (first_open os) (first_open (os ++ more)) c h
    (first_stays os more c)

-- ---- what is owed, by what is listed and what is shown

module _ (u : Program) (must owed : List Owed) (q : Procedure) (none : list_fault u q ≡ None)
    (are : owed ≡ obligations_of u q) where
  listed_is : owed_with u must q ≡ counted (must ++ owed) (first_open (must ++ owed))
  listed_is =
      ap (listed (must ++ obligations_of u q)) none
      ∙ ap (λ os. counted (must ++ os) (first_open (must ++ os))) (sym are)

  pub all_shown : first_open must ≡ None → first_open owed ≡ None
      → owed_with u must q ≡ plans.Got (length (must ++ owed))
  all_shown h k = listed_is ∙ ap (counted (must ++ owed)) (open_in must owed h ∙ k)

  pub first_refused : (w : shown.Why) → Shows {A = Unit {0}} (Err w) (first_open must)
      → Says (λ why. owed_with u must q ≡ Not why) (why_of_show w)
  first_refused (shown_why.Check e) h = absurd h
  first_refused (shown_why.NotShown what place verdict) h =
      listed_is ∙ ap (counted (must ++ owed)) (first_stays must owed _ h)
  first_refused shown_why.Memory h = tt

  pub second_refused : first_open must ≡ None → (w : shown.Why)
      → Shows {A = Unit {0}} (Err w) (first_open owed)
      → Says (λ why. owed_with u must q ≡ Not why) (why_of_show w)
  second_refused h (shown_why.Check e) k = absurd k
  second_refused h (shown_why.NotShown what place verdict) k =
      listed_is ∙ ap (counted (must ++ owed)) (open_in must owed h ∙ k)
  second_refused h shown_why.Memory k = tt

pub list_refused : (u : Program) (must : List Owed) (q : Procedure) (e : CheckError)
    → IsRefusal e (list_fault u q) → Says (λ why. owed_with u must q ≡ Not why) (why_of_list e)
list_refused u must q check.TooManyObligations h =
    ap (listed (must ++ obligations_of u q)) h
list_refused u must q (check.Form form.TooManyCases) h =
    ap (listed (must ++ obligations_of u q)) h
list_refused u must q (check.Form form.SystemTooLarge) h =
    ap (listed (must ++ obligations_of u q)) h
list_refused u must q (check.Form form.WideNumber) h =
    ap (listed (must ++ obligations_of u q)) h
list_refused u must q (check.Form form.TooManySystems) h = absurd h
list_refused u must q (check.Form form.Memory) h = absurd h
list_refused u must q check.Memory h = tt
