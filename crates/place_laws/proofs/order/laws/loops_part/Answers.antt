use Rattle.place_laws.proofs.OfOrder.PartedLoops.{fission_law}
use Rattle.place_laws.proofs.order.laws.loops_part.Goals as goal

pub returns : goal.returns
returns c = fission_law
