use Rattle.place_laws.proofs.OfOrder.PartedLoops.{second_is_apart}
use Rattle.place_laws.proofs.order.laws.second_loops_are_apart.Goals as goal

pub returns : goal.returns
returns c = second_is_apart
