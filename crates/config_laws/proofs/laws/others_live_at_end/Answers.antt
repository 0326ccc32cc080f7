use Rattle.config_laws.proofs.AtEnd.{others_live_at_end}
use Rattle.config_laws.proofs.laws.others_live_at_end.Goals as goal

pub returns : goal.returns
returns c = others_live_at_end
