use Rattle.match_laws.proofs.OfInline.Meets.{meets_along}
use Rattle.match_laws.proofs.inline.laws.blocks_that_meet_do_the_same.Goals as goal

pub returns : goal.returns
returns c = meets_along
