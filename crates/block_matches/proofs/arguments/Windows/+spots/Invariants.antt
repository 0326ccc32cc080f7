use Rattle.std.proofs.Common.{◌+◌, ◌*◌, length}
use Rattle.block_matches.proofs.arguments.Windows.+spots.Given as goal

abbrev pub decreases-spots_at : goal.decreases-spots_at
decreases-spots_at g l = 2 * length l.listed.now

abbrev pub decreases-listed_spots : goal.decreases-listed_spots
decreases-listed_spots g l = 2 * length l.listed.now + 1

abbrev pub decreases-point_spots : goal.decreases-point_spots
decreases-point_spots g l = 2 * length l.listed.now + 1
