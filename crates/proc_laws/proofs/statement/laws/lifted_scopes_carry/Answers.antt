use Rattle.proc_laws.proofs.OfStatement.LiftScope.{lift_is_carrying}
use Rattle.proc_laws.proofs.statement.laws.lifted_scopes_carry.Goals as goal

pub returns : goal.returns
returns c = lift_is_carrying
