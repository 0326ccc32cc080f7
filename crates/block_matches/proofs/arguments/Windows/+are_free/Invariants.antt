use Rattle.std.proofs.Common.{length}
use Rattle.block_matches.proofs.arguments.Windows.+are_free.Given as goal

abbrev pub decreases-are_free : goal.decreases-are_free
decreases-are_free g l = length l.spots.now
