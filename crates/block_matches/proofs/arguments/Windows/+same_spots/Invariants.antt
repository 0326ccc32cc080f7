use Rattle.std.proofs.Common.{length}
use Rattle.block_matches.proofs.arguments.Windows.+same_spots.Given as goal

abbrev pub decreases-same_spots : goal.decreases-same_spots
decreases-same_spots g l = length l.first.now
