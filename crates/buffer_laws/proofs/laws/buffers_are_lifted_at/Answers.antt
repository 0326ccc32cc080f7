use Rattle.buffer_laws.proofs.Lifted.{lift_law}
use Rattle.buffer_laws.proofs.laws.buffers_are_lifted_at.Goals as goal

pub returns : goal.returns
returns c = lift_law
