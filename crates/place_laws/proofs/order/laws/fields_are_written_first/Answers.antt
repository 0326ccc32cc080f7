use Rattle.place_laws.proofs.OfOrder.WrittenFirst.{written_first_law}
use Rattle.place_laws.proofs.order.laws.fields_are_written_first.Goals as goal

pub returns : goal.returns
returns c = written_first_law
