use Rattle.place_laws.proofs.OfOrder.Reorder.{orders_apart}
use Rattle.place_laws.proofs.order.laws.orders_are_apart.Goals as goal

pub returns : goal.returns
returns c = orders_apart
