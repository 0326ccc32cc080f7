use Rattle.config_laws.proofs.Bind.{bound_refines}
use Rattle.config_laws.proofs.laws.bound_refines.Goals as goal

pub returns : goal.returns
returns c = bound_refines
