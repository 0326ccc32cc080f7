use Rattle.std.proofs.Common.{length}
use Rattle.stage_rewrites.proofs.lists.+put_coords_on.Given as goal

abbrev pub decreases-put_coords_on : goal.decreases-put_coords_on
decreases-put_coords_on l = length l.coords.now
