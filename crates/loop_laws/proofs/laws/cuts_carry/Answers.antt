use Rattle.loop_laws.proofs.CutLoop.{cut_is_carrying}
use Rattle.loop_laws.proofs.laws.cuts_carry.Goals as goal

pub returns : goal.returns
returns c = cut_is_carrying
