use Rattle.place_laws.proofs.OfOrder.TurnsOfTwo.{turns_from_footprints}
use Rattle.place_laws.proofs.order.laws.turns_from_footprints.Goals as goal

pub returns : goal.returns
returns c = turns_from_footprints
