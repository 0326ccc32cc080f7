use Rattle.match_laws.proofs.Agree.{conditions_agree_law}
use Rattle.match_laws.proofs.laws.conditions_that_agree_are_equal.Goals as goal

pub returns : goal.returns
returns c = conditions_agree_law
