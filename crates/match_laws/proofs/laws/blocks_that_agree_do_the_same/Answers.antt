use Rattle.match_laws.proofs.Alike.{agree_along}
use Rattle.match_laws.proofs.laws.blocks_that_agree_do_the_same.Goals as goal

pub returns : goal.returns
returns c = agree_along
