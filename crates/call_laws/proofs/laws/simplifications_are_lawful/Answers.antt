use Rattle.call_laws.proofs.Simplify.{simplify_is_lawful}
use Rattle.call_laws.proofs.laws.simplifications_are_lawful.Goals as goal

pub returns : goal.returns
returns c = simplify_is_lawful
