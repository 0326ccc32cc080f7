use Rattle.config_laws.proofs.Grown.{step_fields_grown}
use Rattle.config_laws.proofs.laws.step_fields_grown.Goals as goal

pub returns : goal.returns
returns c = step_fields_grown
