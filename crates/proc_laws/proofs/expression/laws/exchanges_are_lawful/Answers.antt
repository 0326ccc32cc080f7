use Rattle.proc_laws.proofs.OfExpression.Commute.{commute_is_lawful}
use Rattle.proc_laws.proofs.expression.laws.exchanges_are_lawful.Goals as goal

pub returns : goal.returns
returns c = commute_is_lawful
