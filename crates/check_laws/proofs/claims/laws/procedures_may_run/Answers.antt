use Rattle.check_laws.proofs.OfClaims.Standing.{procedures_may_run}
use Rattle.check_laws.proofs.claims.laws.procedures_may_run.Goals as goal

pub returns : goal.returns
returns c = procedures_may_run
