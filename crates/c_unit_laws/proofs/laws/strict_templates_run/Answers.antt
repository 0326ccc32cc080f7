use Rattle.c_unit_laws.proofs.StrictTemplates.{strict_templates_run}
use Rattle.c_unit_laws.proofs.laws.strict_templates_run.Goals as goal

pub returns : goal.returns
returns c = strict_templates_run
