-- Bounds that agree.
use Rattle.std.proofs.Common.{◌≡◌, Bool, true, false, ◌&&◌, Option, Some, None, ap, ap₂, sym, ◌∙◌}
use Rattle.std.specs.Prelude.{if◌then◌else◌}
use Rattle.exo_tree.specs.Tree.{Control}
use Rattle.affine_forms.specs.Forms.{is_affine, keeps_rules}
use Rattle.affine_forms.specs.Outcomes.{IsWide}
use Rattle.affine_forms.specs.declared.error.FormError.{FormError}
use Rattle.affine_forms.specs.declared.error.FormError.TheVariants.{TooManyCases, SystemTooLarge, WideNumber, TooManySystems, Memory}
use Rattle.affine_places.specs.Agreement.{agree, agreement_fits}
use Rattle.affine_places.specs.Readings.{extent_reading}
use Rattle.affine_places.specs.Roots.{variables}
use Rattle.affine_places.proofs.Rules.{rules_kept}
use Rattle.cursor_forward.specs.Causes as causes
use Rattle.cursor_forward.specs.declared.proposal.StepError.TheVariants as errors
use Rattle.cursor_forward.specs.PlainProposal.{cause_of}
use Rattle.loop_laws.specs.Bounds.{bounds_differ}
use Rattle.step_driver.specs.Needs.Outcomes.{IsCause}

pub both_keep_rules : (a b : Control) → is_affine variables a ≡ true → is_affine variables b ≡ true
    → (keeps_rules a && keeps_rules b) ≡ true
both_keep_rules a b h k = ap₂ ◌&&◌ (rules_kept variables a h) (rules_kept variables b k)

abbrev differ_as : Bool → Bool → Option causes.Cause
differ_as fits same =
    if fits
    then (if same then None else Some causes.WrongShape)
    else Some (causes.Form causes.WideNumber)

module _ (a b : Control) (t : Bool) where
  told : agreement_fits extent_reading a b ≡ true → t ≡ agree extent_reading a b
      → bounds_differ a b ≡ differ_as true t
  told fits is = ap₂ differ_as fits (sym is)

  pub they_agree : agreement_fits extent_reading a b ≡ true → t ≡ agree extent_reading a b
      → t ≡ true → bounds_differ a b ≡ None
  they_agree fits is h = told fits is ∙ ap (differ_as true) h

  pub they_differ : agreement_fits extent_reading a b ≡ true → t ≡ agree extent_reading a b
      → t ≡ false → bounds_differ a b ≡ Some causes.WrongShape
  they_differ fits is h = told fits is ∙ ap (differ_as true) h

pub too_wide : (e : FormError) (a b : Control) → IsWide e (agreement_fits extent_reading a b)
    → IsCause (bounds_differ a b) (cause_of (errors.Form e))
too_wide TooManyCases a b w = absurd w
too_wide SystemTooLarge a b w = absurd w
too_wide WideNumber a b w = ap (λ t. differ_as t (agree extent_reading a b)) w
too_wide TooManySystems a b w = absurd w
too_wide Memory a b w = tt
