use Rattle.config_laws.proofs.Local.{writes_may_be_put_in}
use Rattle.config_laws.proofs.laws.writes_may_be_put_in.Goals as goal

pub returns : goal.returns
returns c = writes_may_be_put_in
