use Rattle.std.proofs.Common.{rules}
use Rattle.unit_check.proofs.Taking.{first_in_hand, next_in_hand, fewer_left, last_taken}
use Rattle.unit_check.proofs.Taking.{refused_of, takes_refused, shown_as}
use Rattle.unit_check.proofs.check.take_all.Goals as goal

pub loop-listing-init : goal.loop-listing-init
loop-listing-init g c =
    first_in_hand c.args.listing.now c.next_part.new.self c.args.cache.now c.args.showing.now
    c.in_ok-part.part c.in_ok-part.ensures

pub has_more-requires : goal.has_more-requires
has_more-requires g c = c.loop-listing.invariant.goes.listed

pub list_and_show-requires-clause-listed : goal.list_and_show-requires-clause-listed
list_and_show-requires-clause-listed g c _ _ = c.loop-listing.invariant.goes.listed

pub loop-listing-preserved : goal.loop-listing-preserved
loop-listing-preserved g c =
    next_in_hand c.args.listing.now c.loop-listing.listing c.list_and_show.new.listing
    c.args.cache.now c.loop-listing.cache c.list_and_show.new.cache c.args.showing.now
    c.loop-listing.showing c.list_and_show.new.showing c.loop-listing.part.items
    c.in_ok-part-2.part c.loop-listing.invariant c.in_ok-part-2.ensures.listed
    (shown_as c.loop-listing.part.items c.deref.result.now c.loop-listing.cache
    c.list_and_show.new.cache c.loop-listing.showing c.list_and_show.new.showing
    c.deref.ensures.value c.list_and_show.ensures.shown)

pub loop-listing-smaller : goal.loop-listing-smaller
loop-listing-smaller g c =
    fewer_left c.loop-listing.listing c.list_and_show.new.listing c.in_ok-part-2.part
    c.in_ok-part-2.ensures.listed

pub returns-in_err-part : goal.returns-in_err-part
returns-in_err-part g c = λ es h.
    takes_refused c.from_residual.result c.in_err-part.field-0.0 es c.args.listing.now
    c.next_part.new.self c.args.cache.now c.args.showing.now c.from_residual.ensures.1
    c.in_err-part.ensures

pub returns-in_err-part-2 : goal.returns-in_err-part-2
returns-in_err-part-2 g c = λ es h.
    takes_refused c.from_residual-in_err-part-2.result c.in_err-part-2.field-0.0 es c.args.listing.now
    c.list_and_show.new.listing c.list_and_show.new.cache c.list_and_show.new.showing
    c.from_residual-in_err-part-2.ensures.1
    (refused_of c.in_err-part-2.field-0.0 c.args.listing.now c.loop-listing.listing
    c.loop-listing.invariant.goes c.in_err-part-2.ensures.listed)

pub returns : goal.returns
returns g c = λ es h.
    last_taken c.args.listing.now c.loop-listing.listing c.args.cache.now c.loop-listing.cache
    c.take.new.cache c.args.showing.now c.loop-listing.showing c.take.new.self
    c.loop-listing.part.items c.loop-listing.invariant (c.has_more.ensures.whole (search rules))
    (shown_as c.loop-listing.part.items c.deref-2.result.now c.loop-listing.cache c.take.new.cache
    c.loop-listing.showing c.take.new.self c.deref-2.ensures.value c.take.ensures)
    es h
