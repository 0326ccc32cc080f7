use Rattle.proc_laws.proofs.OfExpression.Passes.{delete_pass_is_carrying}
use Rattle.proc_laws.proofs.expression.laws.deleted_passes_carry.Goals as goal

pub returns : goal.returns
returns c = delete_pass_is_carrying
