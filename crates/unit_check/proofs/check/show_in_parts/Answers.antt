use Rattle.unit_check.proofs.Taking.{more_at_start, taken_in_parts, refused_in_parts}
use Rattle.unit_check.proofs.check.show_in_parts.Goals as goal

pub take_all-requires-clause-more : goal.take_all-requires-clause-more
take_all-requires-clause-more g c κs within =
    more_at_start c.args.listing.now c.requires.listed c.requires.begins

pub returns-in_err-take_all : goal.returns-in_err-take_all
returns-in_err-take_all g c =
    refused_in_parts c.from_residual.result c.in_err-take_all.field-0.0 c.args.listing.now
    c.take_all.new.listing c.args.cache.now c.take_all.new.cache c.new-showing.result
    c.take_all.new.showing c.from_residual.ensures.1 c.requires.begins c.new-showing.ensures
    c.in_err-take_all.ensures

pub returns : goal.returns
returns g c =
    taken_in_parts c.args.listing.now c.take_all.new.listing c.args.cache.now c.take_all.new.cache
    c.new-showing.result c.take_all.new.showing c.requires.begins c.new-showing.ensures
    c.in_ok-take_all.ensures
