use Rattle.config_laws.proofs.OfLive.CallVersion.{call_version}
use Rattle.config_laws.proofs.live.laws.calls_of_versions_refine.Goals as goal

pub returns : goal.returns
returns c = call_version
