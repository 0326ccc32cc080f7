-- The rest falls.
use Rattle.std.proofs.Common.{length}
use Rattle.tree_findings.proofs.call.+is_shared.Given as goal

abbrev pub decreases-is_shared : goal.decreases-is_shared
decreases-is_shared l = length l.params.now
