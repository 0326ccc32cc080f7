use Rattle.bounds_check.proofs.WellFormed.{claims_may_be_owed}
use Rattle.bounds_check.proofs.laws.claims_may_be_owed.Goals as goal

pub returns : goal.returns
returns c = claims_may_be_owed
