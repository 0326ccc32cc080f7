use Rattle.place_laws.proofs.OfOrder.RemoveLoop.{loops_are_removed_at}
use Rattle.place_laws.proofs.order.laws.loops_are_removed_at.Goals as goal

pub returns : goal.returns
returns c = loops_are_removed_at
