use Rattle.schedule_laws.proofs.OfOperators.StageExamples.{stage_instance}
use Rattle.schedule_laws.proofs.operators.laws.stage_instance.Goals as goal

pub returns : goal.returns
returns c = stage_instance
