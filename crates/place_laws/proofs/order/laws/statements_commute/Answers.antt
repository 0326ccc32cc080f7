use Rattle.place_laws.proofs.OfOrder.Statements.{statements_commute}
use Rattle.place_laws.proofs.order.laws.statements_commute.Goals as goal

pub returns : goal.returns
returns c = statements_commute
