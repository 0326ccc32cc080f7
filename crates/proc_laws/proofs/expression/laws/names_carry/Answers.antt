use Rattle.proc_laws.proofs.OfExpression.Rename.{rename_is_carrying}
use Rattle.proc_laws.proofs.expression.laws.names_carry.Goals as goal

pub returns : goal.returns
returns c = rename_is_carrying
