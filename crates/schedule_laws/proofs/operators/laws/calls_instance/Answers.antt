use Rattle.schedule_laws.proofs.OfOperators.CallExamples.{calls_instance}
use Rattle.schedule_laws.proofs.operators.laws.calls_instance.Goals as goal

pub returns : goal.returns
returns c = calls_instance
