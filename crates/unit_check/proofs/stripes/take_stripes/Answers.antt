use Rattle.std.proofs.Common.{◌≡◌, ◌*◌, ap, sym, ◌∙◌, subst, false}
use Rattle.bounds_check.specs.declared.stripe.Stripe.{Stripe}
use Rattle.unit_check.specs.declared.showing.Showing.{Showing}
use Rattle.bounds_check.specs.Parts.{HasPassed}
use Rattle.unit_check.proofs.Striped.{all_shown}
use Rattle.unit_check.proofs.stripes.take_stripes.Goals as goal

pub returns-in-Ok-pass : goal.returns-in-Ok-pass
returns-in-Ok-pass g c = λ d none.
    let stripe_is = ap (λ (x : Stripe × Showing). x.0) c.into_parts-showing.ensures in
    let showing_is = ap (λ (x : Stripe × Showing). x.1) c.into_parts-showing.ensures in
    rw showing_is
    (all_shown c.args.listing.now c.pass.new.self (0 * 4096) (c.args.count * 4096) c.in-Ok.shown
    c.requires.begins c.in-Ok.ensures
    (subst (λ (s : Stripe). HasPassed s c.args.listing.now c.pass.new.self) stripe_is c.in-Ok-pass.ensures.passed)
    (subst (λ (s : Stripe). s.more ≡ false) stripe_is (sym c.has_more.ensures ∙ c.if-has_more.false)) d none)
