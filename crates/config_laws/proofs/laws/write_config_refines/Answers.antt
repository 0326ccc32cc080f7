use Rattle.config_laws.proofs.Rules.{write_config_refines}
use Rattle.config_laws.proofs.laws.write_config_refines.Goals as goal

pub returns : goal.returns
returns c = write_config_refines
