use Rattle.call_laws.proofs.Simplest.{simplifies_all}
use Rattle.call_laws.proofs.laws.all_is_simplified.Goals as goal

pub returns : goal.returns
returns c = simplifies_all
