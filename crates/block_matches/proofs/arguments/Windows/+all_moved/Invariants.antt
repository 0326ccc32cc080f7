use Rattle.std.proofs.Common.{length}
use Rattle.block_matches.proofs.arguments.Windows.+all_moved.Given as goal

abbrev pub decreases-all_moved : goal.decreases-all_moved
decreases-all_moved g l = length l.dims.now
