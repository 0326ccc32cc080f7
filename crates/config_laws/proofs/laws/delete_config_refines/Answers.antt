use Rattle.config_laws.proofs.Rules.{delete_config_refines}
use Rattle.config_laws.proofs.laws.delete_config_refines.Goals as goal

pub returns : goal.returns
returns c = delete_config_refines
