use Rattle.proc_laws.proofs.OfStatement.DeadCode.{keep_is_lawful}
use Rattle.proc_laws.proofs.statement.laws.kept_branches_are_lawful.Goals as goal

pub returns : goal.returns
returns c = keep_is_lawful
