use Rattle.place_laws.proofs.OfOrder.PartedLoops.{fuse_law}
use Rattle.place_laws.proofs.order.laws.loops_fuse.Goals as goal

pub returns : goal.returns
returns c = fuse_law
