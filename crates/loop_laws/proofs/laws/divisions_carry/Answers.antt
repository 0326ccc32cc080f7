use Rattle.loop_laws.proofs.DivideLoop.{divide_is_carrying}
use Rattle.loop_laws.proofs.laws.divisions_carry.Goals as goal

pub returns : goal.returns
returns c = divide_is_carrying
