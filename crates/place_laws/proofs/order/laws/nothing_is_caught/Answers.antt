use Rattle.place_laws.proofs.OfOrder.Caught.{nothing_is_caught}
use Rattle.place_laws.proofs.order.laws.nothing_is_caught.Goals as goal

pub returns : goal.returns
returns c = nothing_is_caught
