use Rattle.std.proofs.Common.{length}
use Rattle.block_matches.proofs.pairs.buffer.+push_extents.Given as goal

abbrev pub decreases-push_extents : goal.decreases-push_extents
decreases-push_extents l = length l.coords.now
