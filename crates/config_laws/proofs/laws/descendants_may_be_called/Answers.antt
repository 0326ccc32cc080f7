use Rattle.config_laws.proofs.Called.{descendants_may_be_called}
use Rattle.config_laws.proofs.laws.descendants_may_be_called.Goals as goal

pub returns : goal.returns
returns c = descendants_may_be_called
