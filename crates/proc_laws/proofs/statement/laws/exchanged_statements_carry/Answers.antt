use Rattle.proc_laws.proofs.OfStatement.ReorderStatements.{reorder_is_carrying}
use Rattle.proc_laws.proofs.statement.laws.exchanged_statements_carry.Goals as goal

pub returns : goal.returns
returns c = reorder_is_carrying
