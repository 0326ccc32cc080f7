use Rattle.config_laws.proofs.Local.{arguments_may_be_bound}
use Rattle.config_laws.proofs.laws.arguments_may_be_bound.Goals as goal

pub returns : goal.returns
returns c = arguments_may_be_bound
