use Rattle.bounds_check.specs.Parts.{owed_in}
use Rattle.bounds_check.proofs.Striped.{appends}
use Rattle.bounds_check.proofs.stripe.Stripe.append.Goals as goal

pub returns-clause-goes : goal.returns-clause-goes
returns-clause-goes c = λ u p is other at some.
    appends u p c.args.self.now c.args.other c.in_ok-self-2.field-0 c.in_ok-self.field-0 is other
    at some c.in_ok-self-2.ensures.sum
    (c.in_ok-self.ensures (owed_in u p c.args.self.now) (owed_in u p c.args.other) is.amount
    other.amount)
