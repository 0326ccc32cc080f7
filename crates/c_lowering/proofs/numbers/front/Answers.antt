use Rattle.c_lowering.proofs.Offsets.{front_is}
use Rattle.c_lowering.proofs.numbers.front.Goals as goal

pub returns : goal.returns
returns c = front_is c.args.list.now
