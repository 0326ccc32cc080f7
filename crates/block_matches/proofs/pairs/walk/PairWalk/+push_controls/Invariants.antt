use Rattle.std.proofs.Common.{length}
use Rattle.block_matches.proofs.pairs.walk.PairWalk.+push_controls.Given as goal

abbrev pub decreases-push_controls : goal.decreases-push_controls
decreases-push_controls l = length l.es.now
