-- The rest falls.
use Rattle.std.proofs.Common.{length}
use Rattle.tree_findings.proofs.expression.+in_controls.Given as goal

abbrev pub decreases-in_controls : goal.decreases-in_controls
decreases-in_controls l = length l.es.now
