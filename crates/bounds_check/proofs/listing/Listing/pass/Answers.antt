use Rattle.bounds_check.specs.Parts.{unit_of, proc_of, listed_of, owed_in}
use Rattle.bounds_check.proofs.Listed.{passes}
use Rattle.bounds_check.proofs.listing.Listing.pass.Goals as goal

pub returns-clause-passed : goal.returns-clause-passed
returns-clause-passed c =
    let l = c.args.self.now in
    passes l c.requires.listed c.places_have_all_claims.ensures c.args.stripe c.requires.stripe
    c.requires.next c.requires.some c.in_ok-next.next c.in_ok-amount.amount
    c.in_ok-next.ensures.sum
    (c.in_ok-amount.ensures (listed_of l) (owed_in (unit_of l) (proc_of l) c.args.stripe)
    c.requires.listed.amount c.requires.stripe.amount)
