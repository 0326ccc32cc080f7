use Rattle.check_claims.proofs.Placing.{all_claims}
use Rattle.check_claims.proofs.laws.places_have_all_claims.Goals as goal

pub returns : goal.returns
returns c = all_claims
