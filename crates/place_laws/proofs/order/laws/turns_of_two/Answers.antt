use Rattle.place_laws.proofs.OfOrder.TurnsOfTwo.{turns_of_two}
use Rattle.place_laws.proofs.order.laws.turns_of_two.Goals as goal

pub returns : goal.returns
returns c = turns_of_two
