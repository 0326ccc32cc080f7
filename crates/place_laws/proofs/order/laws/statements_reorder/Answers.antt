use Rattle.place_laws.proofs.OfOrder.Reorder.{reorder_law}
use Rattle.place_laws.proofs.order.laws.statements_reorder.Goals as goal

pub returns : goal.returns
returns c = reorder_law
