use Rattle.std.proofs.Common.{length}
use Rattle.block_matches.proofs.pairs.walk.PairWalk.+push_coords.Given as goal

abbrev pub decreases-push_coords : goal.decreases-push_coords
decreases-push_coords l = length l.cs.now
