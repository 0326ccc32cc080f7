use Rattle.schedule_laws.proofs.OfOperators.OrderExamples.{order_instance}
use Rattle.schedule_laws.proofs.operators.laws.order_instance.Goals as goal

pub returns : goal.returns
returns c = order_instance
