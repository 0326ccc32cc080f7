use Rattle.std.proofs.Common.{length}
use Rattle.block_matches.proofs.arguments.Windows.+coords_from.Given as goal

abbrev pub decreases-coords_from : goal.decreases-coords_from
decreases-coords_from g l = length l.spots.now
