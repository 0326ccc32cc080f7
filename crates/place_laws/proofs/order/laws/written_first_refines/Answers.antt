use Rattle.place_laws.proofs.OfOrder.WrittenPlaces.{written_first_refines}
use Rattle.place_laws.proofs.order.laws.written_first_refines.Goals as goal

pub returns : goal.returns
returns c = written_first_refines
