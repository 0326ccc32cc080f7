use Rattle.bounds_check.proofs.Listed.{roots_there, sources_there, told_claims, told_more}
use Rattle.bounds_check.proofs.listing.Listing.claims.Goals as goal

pub claims_between-requires-clause-roots : goal.claims_between-requires-clause-roots
claims_between-requires-clause-roots c = roots_there c.args.self.now c.requires.listed

pub claims_between-requires-clause-sources : goal.claims_between-requires-clause-sources
claims_between-requires-clause-sources c = sources_there c.args.self.now c.requires.listed

pub returns-clause-claims : goal.returns-clause-claims
returns-clause-claims c =
    told_claims c.args.self.now c.requires.listed c.args.skip c.args.count c.claims_between.result
    c.claims_between.ensures.claims

pub returns-clause-more : goal.returns-clause-more
returns-clause-more c =
    told_more c.args.self.now c.requires.listed c.args.skip c.args.count c.claims_between.result
    c.claims_between.ensures.more
