use Rattle.place_laws.proofs.OfOrder.Unread.{unread_fields_are_dead}
use Rattle.place_laws.proofs.order.laws.unread_fields_are_dead.Goals as goal

pub returns : goal.returns
returns c = unread_fields_are_dead
