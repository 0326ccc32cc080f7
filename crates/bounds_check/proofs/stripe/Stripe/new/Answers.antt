use Rattle.std.proofs.Common.{refl, arith}
use Rattle.bounds_check.proofs.stripe.Stripe.new.Goals as goal

pub returns-clause-stripe : goal.returns-clause-stripe
returns-clause-stripe c = λ u p.
    record { fine = refl; amount = c.none.ensures; more = λ some. absurd (omega (arith, some)) }
