use Rattle.match_laws.proofs.OfSimplify.Simplified.{simplified_law}
use Rattle.match_laws.proofs.simplify.laws.simplified_numbers_are_the_same.Goals as goal

pub returns : goal.returns
returns c = simplified_law
