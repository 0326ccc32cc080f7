use Rattle.loop_laws.proofs.OfNest.ReorderLoops.{reorder_is_lawful}
use Rattle.loop_laws.proofs.nest.laws.reorders_are_lawful.Goals as goal

pub returns : goal.returns
returns c = reorder_is_lawful
