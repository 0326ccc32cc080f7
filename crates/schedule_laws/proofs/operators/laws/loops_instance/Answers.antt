use Rattle.schedule_laws.proofs.OfOperators.Examples.{loops_instance}
use Rattle.schedule_laws.proofs.operators.laws.loops_instance.Goals as goal

pub returns : goal.returns
returns c = loops_instance
