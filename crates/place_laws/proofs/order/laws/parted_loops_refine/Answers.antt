use Rattle.place_laws.proofs.OfOrder.PartedPlaces.{fission_refines}
use Rattle.place_laws.proofs.order.laws.parted_loops_refine.Goals as goal

pub returns : goal.returns
returns c = fission_refines
