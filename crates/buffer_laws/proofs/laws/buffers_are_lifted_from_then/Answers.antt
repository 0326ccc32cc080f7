use Rattle.buffer_laws.proofs.Lifted.{lift_from_then}
use Rattle.buffer_laws.proofs.laws.buffers_are_lifted_from_then.Goals as goal

pub returns : goal.returns
returns c = lift_from_then
