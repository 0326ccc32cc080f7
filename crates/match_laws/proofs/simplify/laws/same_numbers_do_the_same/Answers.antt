use Rattle.match_laws.proofs.OfSimplify.SameControls.{same_controls_along}
use Rattle.match_laws.proofs.simplify.laws.same_numbers_do_the_same.Goals as goal

pub returns : goal.returns
returns c = same_controls_along
