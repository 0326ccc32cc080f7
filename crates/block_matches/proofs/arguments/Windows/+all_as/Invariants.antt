use Rattle.std.proofs.Common.{length}
use Rattle.block_matches.proofs.arguments.Windows.+all_as.Given as goal

abbrev pub decreases-all_as : goal.decreases-all_as
decreases-all_as g l = length l.uses.now
