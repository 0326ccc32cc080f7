use Rattle.proc_laws.proofs.OfExpression.Rename.{rename_is_lawful}
use Rattle.proc_laws.proofs.expression.laws.names_are_lawful.Goals as goal

pub returns : goal.returns
returns c = rename_is_lawful
