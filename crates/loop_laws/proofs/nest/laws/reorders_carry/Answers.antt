use Rattle.loop_laws.proofs.OfNest.ReorderLoops.{reorder_is_carrying}
use Rattle.loop_laws.proofs.nest.laws.reorders_carry.Goals as goal

pub returns : goal.returns
returns c = reorder_is_carrying
