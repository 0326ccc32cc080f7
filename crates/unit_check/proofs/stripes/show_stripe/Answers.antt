use Rattle.std.proofs.Common.{◌≡◌, ◌+◌, ◌*◌, map, subst, arith}
use Rattle.affine_systems.specs.Outcomes.{plain_obligation}
use Rattle.bounds_check.specs.Parts.{unit_of, proc_of}
use Rattle.unit_check.specs.Parts.{IsShown}
use Rattle.unit_check.proofs.Striped.{IsSoFar, begun, one_more, all_parts}
use Rattle.unit_check.proofs.Taking.{shown_as}
use Rattle.unit_check.proofs.stripes.show_stripe.Goals as goal

pub loop-init : goal.loop-init
loop-init g c =
    let u = unit_of c.args.listing.now in
    let p = proc_of c.args.listing.now in
    begun u p c.args.skip c.new-stripe.result c.in_ok-cache.cache c.new-showing.result
    (c.new-stripe.ensures.stripe u p) c.new-stripe.ensures.skip c.new-stripe.ensures.places
    c.in_ok-cache.ensures c.new-showing.ensures

pub next_of_stripe-requires-clause-stripe : goal.next_of_stripe-requires-clause-stripe
next_of_stripe-requires-clause-stripe g c = c.loop.invariant.stripe

pub loop-preserved : goal.loop-preserved
loop-preserved g c =
    let u = unit_of c.args.listing.now in
    let p = proc_of c.args.listing.now in
    let more : 512 * c.loop.counter + 512 ≡ 512 * (c.loop.counter + 1) = omega arith in
    subst (λ n. IsSoFar u p c.args.skip n c.next_of_stripe.new.stripe c.take.new.cache
    c.take.new.self) more
    (one_more u p c.args.skip (512 * c.loop.counter) 512 c.loop.stripe c.next_of_stripe.new.stripe
    c.loop.cache c.take.new.cache c.loop.showing c.take.new.self
    (map plain_obligation c.in_ok-part.part.items) c.loop.invariant c.in_ok-part.ensures.part
    (shown_as c.in_ok-part.part.items c.deref.result.now c.loop.cache c.take.new.cache
    c.loop.showing c.take.new.self c.deref.ensures.value c.take.ensures))

pub returns : goal.returns
returns g c =
    let u = unit_of c.args.listing.now in
    let p = proc_of c.args.listing.now in
    let all : 512 * c.loop.counter ≡ 4096 =
    omega (arith, c.loop-test.false, c.loop.auto.counter-end) in
    subst (λ n. IsShown u p c.args.skip n
    (record { stripe = c.loop.stripe; showing = c.loop.showing })) all
    (all_parts u p c.args.skip (512 * c.loop.counter) c.loop.stripe c.loop.cache c.loop.showing
    c.loop.invariant)
