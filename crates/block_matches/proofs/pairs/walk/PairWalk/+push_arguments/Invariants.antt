use Rattle.std.proofs.Common.{length}
use Rattle.block_matches.proofs.pairs.walk.PairWalk.+push_arguments.Given as goal

abbrev pub decreases-push_arguments : goal.decreases-push_arguments
decreases-push_arguments l = length l.args.now
