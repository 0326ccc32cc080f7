use Rattle.std.proofs.Common.{length}
use Rattle.block_matches.proofs.arguments.Windows.+are_at_zero.Given as goal

abbrev pub decreases-are_at_zero : goal.decreases-are_at_zero
decreases-are_at_zero g l = length l.spots.now
