use Rattle.std.proofs.Common.{◌++◌, map, subst}
use Rattle.affine_systems.specs.Amounts.{IsAmount}
use Rattle.affine_systems.specs.Outcomes.{plain_obligation}
use Rattle.bounds_check.specs.Parts.{unit_of, proc_of, IsRange, owed_in}
use Rattle.bounds_check.proofs.Striped.{further}
use Rattle.bounds_check.proofs.listing.Listing.next_of_stripe.Goals as goal

pub returns-clause-part : goal.returns-clause-part
returns-clause-part c =
    let u = unit_of c.args.self.now in
    let p = proc_of c.args.self.now in
    let s = c.args.stripe.now in
    let range = subst (λ n. IsRange u p n 512 c.in_ok-range.range) c.in_ok-at.ensures.sum
    c.in_ok-range.ensures.range in
    further u p s c.requires.stripe 512 (map plain_obligation c.in_ok-range.range.owed.items)
    range.fine range.owed c.in_ok-stripe-2.field-0 c.in_ok-range.range.more
    c.in_ok-stripe.field-0 c.in_ok-stripe-2.ensures.sum
    (subst (λ os. IsAmount (owed_in u p s ++ map plain_obligation os) c.in_ok-stripe.field-0)
    c.deref.ensures.value (c.in_ok-stripe.ensures (owed_in u p s) c.requires.stripe.amount))
    range.more
