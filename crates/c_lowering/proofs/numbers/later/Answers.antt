use Rattle.c_lowering.proofs.Offsets.{later_part}
use Rattle.c_lowering.proofs.numbers.later.Goals as goal

pub returns : goal.returns
returns c = later_part c.args.dims.now c.args.k
