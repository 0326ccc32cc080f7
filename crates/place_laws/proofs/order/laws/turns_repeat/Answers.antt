use Rattle.place_laws.proofs.OfOrder.Repeat.{turns_repeat}
use Rattle.place_laws.proofs.order.laws.turns_repeat.Goals as goal

pub returns : goal.returns
returns c = turns_repeat
