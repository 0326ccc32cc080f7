use Rattle.std.proofs.Common.{length}
use Rattle.loop_rewrites.proofs.nest.same.+same_coords.Given as goal

abbrev pub decreases-same_coords : goal.decreases-same_coords
decreases-same_coords l = length l.one.now
