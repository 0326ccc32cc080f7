use Rattle.std.proofs.Common.{◌++◌, Ok, Err, map, subst}
use Rattle.affine_systems.specs.Amounts.{Counted}
use Rattle.affine_systems.specs.Outcomes.{plain_obligation}
use Rattle.bounds_check.specs.Errors.{error_of}
use Rattle.bounds_check.proofs.Listed.{full_part, goes_on, refuses}
use Rattle.bounds_check.proofs.listing.Listing.next_part.Goals as goal

pub returns-in_err-range : goal.returns-in_err-range
returns-in_err-range g c =
    let l = c.args.self.now in
    let e = c.in_err-range.field-0.0 in
    refuses c.from_residual.result l l e c.from_residual.ensures.1
    c.in_err-range.ensures.refused

pub returns-in_err-self : goal.returns-in_err-self
returns-in_err-self g c =
    let l = c.args.self.now in
    let e = c.in_err-self.field-0.0 in
    refuses c.from_residual-in_err-self.result l l (error_of e)
    c.from_residual-in_err-self.ensures.1
    (full_part l c.requires.listed c.places_have_all_claims.ensures c.in_ok-range.range
    c.in_ok-range.ensures.owed e
    (λ ws h. subst (λ os. Counted (Err e) (ws ++ map plain_obligation os)) c.deref.ensures.value
    (c.in_err-self.ensures ws h)))

pub returns : goal.returns
returns g c =
    goes_on c.args.self.now c.requires.listed c.places_have_all_claims.ensures c.in_ok-range.range
    c.in_ok-range.ensures.owed c.in_ok-self-2.field-0 c.in_ok-self.field-0 c.in_ok-self-2.ensures.sum
    (λ ws h. subst (λ os. Counted (Ok c.in_ok-self.field-0) (ws ++ map plain_obligation os))
    c.deref.ensures.value (c.in_ok-self.ensures ws h))
    c.requires.more
