-- The rest falls.
use Rattle.std.proofs.Common.{length}
use Rattle.tree_findings.proofs.call.+share_nothing_written.Given as goal

abbrev pub decreases-share_nothing_written : goal.decreases-share_nothing_written
decreases-share_nothing_written l = length l.params.now
