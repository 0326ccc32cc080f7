use Rattle.config_laws.proofs.Beside.{live_beside}
use Rattle.config_laws.proofs.laws.fields_are_live_in_gaps.Goals as goal

pub returns : goal.returns
returns c = live_beside
