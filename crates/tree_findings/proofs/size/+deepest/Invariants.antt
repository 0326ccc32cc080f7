-- The rest falls.
use Rattle.std.proofs.Common.{length}
use Rattle.tree_findings.proofs.size.+deepest.Given as goal

abbrev pub decreases-deepest : goal.decreases-deepest
decreases-deepest l = length l.es.now
