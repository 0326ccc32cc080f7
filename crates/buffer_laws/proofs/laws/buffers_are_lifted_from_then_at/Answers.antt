use Rattle.buffer_laws.proofs.Lifted.{lift_then_law}
use Rattle.buffer_laws.proofs.laws.buffers_are_lifted_from_then_at.Goals as goal

pub returns : goal.returns
returns c = lift_then_law
