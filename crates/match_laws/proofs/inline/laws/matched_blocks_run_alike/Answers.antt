use Rattle.match_laws.proofs.OfInline.MatchLaw.{match_runs}
use Rattle.match_laws.proofs.inline.laws.matched_blocks_run_alike.Goals as goal

pub returns : goal.returns
returns c = match_runs
