use Rattle.place_laws.proofs.OfOrder.PartedLoops.{turn_by_turn}
use Rattle.place_laws.proofs.order.laws.turns_go_in_turn.Goals as goal

pub returns : goal.returns
returns c = turn_by_turn
