use Rattle.match_laws.proofs.Agree.{agree_law}
use Rattle.match_laws.proofs.laws.expressions_that_agree_are_equal.Goals as goal

pub returns : goal.returns
returns c = agree_law
