use Rattle.call_laws.proofs.Simplify.{simplify_is_carrying}
use Rattle.call_laws.proofs.laws.simplifications_carry.Goals as goal

pub returns : goal.returns
returns c = simplify_is_carrying
