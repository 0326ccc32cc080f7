use Rattle.match_laws.proofs.Alike.{agree_runs}
use Rattle.match_laws.proofs.laws.blocks_that_agree_run_alike.Goals as goal

pub returns : goal.returns
returns c = agree_runs
