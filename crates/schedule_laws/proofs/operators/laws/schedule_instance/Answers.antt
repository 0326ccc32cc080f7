use Rattle.schedule_laws.proofs.OfOperators.Examples.{schedule_instance}
use Rattle.schedule_laws.proofs.operators.laws.schedule_instance.Goals as goal

pub returns : goal.returns
returns c = schedule_instance
