use Rattle.proc_laws.proofs.OfStatement.ReorderStatements.{reorder_is_lawful}
use Rattle.proc_laws.proofs.statement.laws.exchanged_statements_are_lawful.Goals as goal

pub returns : goal.returns
returns c = reorder_is_lawful
