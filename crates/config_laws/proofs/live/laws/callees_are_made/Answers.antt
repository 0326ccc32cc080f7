use Rattle.config_laws.proofs.OfLive.UnitCallees.{callees_are_made}
use Rattle.config_laws.proofs.live.laws.callees_are_made.Goals as goal

pub returns : goal.returns
returns c = callees_are_made
