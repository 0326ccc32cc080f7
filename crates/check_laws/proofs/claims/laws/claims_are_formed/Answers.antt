use Rattle.check_laws.proofs.OfClaims.FormedWalk.{claims_are_formed}
use Rattle.check_laws.proofs.claims.laws.claims_are_formed.Goals as goal

pub returns : goal.returns
returns c = claims_are_formed
