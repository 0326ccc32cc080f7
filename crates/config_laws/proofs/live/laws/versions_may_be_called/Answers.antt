use Rattle.config_laws.proofs.OfLive.CallFits.{call_fits}
use Rattle.config_laws.proofs.live.laws.versions_may_be_called.Goals as goal

pub returns : goal.returns
returns c = call_fits
