use Rattle.config_laws.proofs.Called.{version_refines}
use Rattle.config_laws.proofs.laws.version_refines.Goals as goal

pub returns : goal.returns
returns c = version_refines
