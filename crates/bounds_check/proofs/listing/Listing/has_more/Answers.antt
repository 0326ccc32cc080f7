use Rattle.bounds_check.proofs.Listed.{whole}
use Rattle.bounds_check.proofs.listing.Listing.has_more.Goals as goal

pub returns-clause-whole : goal.returns-clause-whole
returns-clause-whole c h =
    whole c.places_have_all_claims.ensures c.args.self.now c.requires h
