-- The rest falls.
use Rattle.std.proofs.Common.{length}
use Rattle.tree_findings.proofs.argument.+in_arguments.Given as goal

abbrev pub decreases-in_arguments : goal.decreases-in_arguments
decreases-in_arguments l = length l.params.now
