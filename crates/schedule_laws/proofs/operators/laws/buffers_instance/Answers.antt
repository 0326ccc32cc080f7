use Rattle.schedule_laws.proofs.OfOperators.BufferExamples.{buffers_instance}
use Rattle.schedule_laws.proofs.operators.laws.buffers_instance.Goals as goal

pub returns : goal.returns
returns c = buffers_instance
