use Rattle.proc_laws.proofs.OfStatement.RemoveLoop.{remove_is_carrying}
use Rattle.proc_laws.proofs.statement.laws.removed_loops_carry.Goals as goal

pub returns : goal.returns
returns c = remove_is_carrying
