use Rattle.config_laws.proofs.Local.{writes_may_be_left_out}
use Rattle.config_laws.proofs.laws.writes_may_be_left_out.Goals as goal

pub returns : goal.returns
returns c = writes_may_be_left_out
