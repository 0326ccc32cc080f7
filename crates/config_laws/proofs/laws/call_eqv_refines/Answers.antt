use Rattle.config_laws.proofs.Rules.{call_eqv_refines}
use Rattle.config_laws.proofs.laws.call_eqv_refines.Goals as goal

pub returns : goal.returns
returns c = call_eqv_refines
