use Rattle.buffer_laws.proofs.Lifted.{lift_from_else}
use Rattle.buffer_laws.proofs.laws.buffers_are_lifted_from_else.Goals as goal

pub returns : goal.returns
returns c = lift_from_else
