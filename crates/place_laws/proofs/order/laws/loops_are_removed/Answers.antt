use Rattle.place_laws.proofs.OfOrder.Repeat.{loops_are_removed}
use Rattle.place_laws.proofs.order.laws.loops_are_removed.Goals as goal

pub returns : goal.returns
returns c = loops_are_removed
