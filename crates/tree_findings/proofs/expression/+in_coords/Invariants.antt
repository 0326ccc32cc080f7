-- The rest falls.
use Rattle.std.proofs.Common.{length}
use Rattle.tree_findings.proofs.expression.+in_coords.Given as goal

abbrev pub decreases-in_coords : goal.decreases-in_coords
decreases-in_coords l = length l.coords.now
