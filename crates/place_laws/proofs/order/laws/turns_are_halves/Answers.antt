use Rattle.place_laws.proofs.OfOrder.PartedLoops.{split_halves}
use Rattle.place_laws.proofs.order.laws.turns_are_halves.Goals as goal

pub returns : goal.returns
returns c = split_halves
