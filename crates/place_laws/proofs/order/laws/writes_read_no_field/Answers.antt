use Rattle.place_laws.proofs.OfOrder.WrittenPlaces.{writes_read_none}
use Rattle.place_laws.proofs.order.laws.writes_read_no_field.Goals as goal

pub returns : goal.returns
returns c = writes_read_none
