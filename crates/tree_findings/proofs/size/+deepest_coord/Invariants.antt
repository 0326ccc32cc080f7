-- The rest falls.
use Rattle.std.proofs.Common.{length}
use Rattle.tree_findings.proofs.size.+deepest_coord.Given as goal

abbrev pub decreases-deepest_coord : goal.decreases-deepest_coord
decreases-deepest_coord l = length l.coords.now
