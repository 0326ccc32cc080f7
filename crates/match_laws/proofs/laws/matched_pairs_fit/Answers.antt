use Rattle.match_laws.proofs.MatchedFits.{matched_fits}
use Rattle.match_laws.proofs.laws.matched_pairs_fit.Goals as goal

pub returns : goal.returns
returns c = matched_fits
