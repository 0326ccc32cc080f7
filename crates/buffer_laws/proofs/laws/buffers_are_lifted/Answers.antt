use Rattle.buffer_laws.proofs.Lifted.{lift_from_loop}
use Rattle.buffer_laws.proofs.laws.buffers_are_lifted.Goals as goal

pub returns : goal.returns
returns c = lift_from_loop
