use Rattle.place_laws.proofs.OfOrder.PartedPlaces.{fuse_refines}
use Rattle.place_laws.proofs.order.laws.fused_loops_refine.Goals as goal

pub returns : goal.returns
returns c = fuse_refines
