use Rattle.proc_laws.proofs.OfExpression.Commute.{commute_is_carrying}
use Rattle.proc_laws.proofs.expression.laws.exchanges_carry.Goals as goal

pub returns : goal.returns
returns c = commute_is_carrying
