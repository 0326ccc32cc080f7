use Rattle.loop_laws.proofs.UnrollLoop.{unroll_is_carrying}
use Rattle.loop_laws.proofs.laws.unrolled_loops_carry.Goals as goal

pub returns : goal.returns
returns c = unroll_is_carrying
