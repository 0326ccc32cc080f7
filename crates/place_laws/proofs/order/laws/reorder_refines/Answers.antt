use Rattle.place_laws.proofs.OfOrder.Reorder.{reorder_refines}
use Rattle.place_laws.proofs.order.laws.reorder_refines.Goals as goal

pub returns : goal.returns
returns c = reorder_refines
