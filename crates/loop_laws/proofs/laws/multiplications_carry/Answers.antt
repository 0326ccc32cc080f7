use Rattle.loop_laws.proofs.MultLoops.{mult_is_carrying}
use Rattle.loop_laws.proofs.laws.multiplications_carry.Goals as goal

pub returns : goal.returns
returns c = mult_is_carrying
