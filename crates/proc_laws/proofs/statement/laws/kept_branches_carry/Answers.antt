use Rattle.proc_laws.proofs.OfStatement.DeadCode.{keep_is_carrying}
use Rattle.proc_laws.proofs.statement.laws.kept_branches_carry.Goals as goal

pub returns : goal.returns
returns c = keep_is_carrying
