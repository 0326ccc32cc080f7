use Rattle.match_laws.proofs.OfInline.MatchLaw.{match_law}
use Rattle.match_laws.proofs.inline.laws.matched_blocks_do_the_same.Goals as goal

pub returns : goal.returns
returns c = match_law
