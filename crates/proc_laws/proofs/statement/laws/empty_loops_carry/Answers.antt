use Rattle.proc_laws.proofs.OfStatement.DeadCode.{empty_loop_is_carrying}
use Rattle.proc_laws.proofs.statement.laws.empty_loops_carry.Goals as goal

pub returns : goal.returns
returns c = empty_loop_is_carrying
