use Rattle.std.proofs.Common.{length}
use Rattle.stage_rewrites.proofs.places.+put_spots.Given as goal

abbrev pub decreases-put_spots : goal.decreases-put_spots
decreases-put_spots l = length l.coords.now
