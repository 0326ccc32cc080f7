use Rattle.config_laws.proofs.Rules.{bind_config_refines}
use Rattle.config_laws.proofs.laws.bind_config_refines.Goals as goal

pub returns : goal.returns
returns c = bind_config_refines
