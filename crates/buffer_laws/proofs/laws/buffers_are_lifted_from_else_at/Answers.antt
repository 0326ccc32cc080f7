use Rattle.buffer_laws.proofs.Lifted.{lift_else_law}
use Rattle.buffer_laws.proofs.laws.buffers_are_lifted_from_else_at.Goals as goal

pub returns : goal.returns
returns c = lift_else_law
