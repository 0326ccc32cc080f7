use Rattle.std.proofs.Common.{length}
use Rattle.stage_rewrites.proofs.writing.+put_simpler_coords.Given as goal

abbrev pub decreases-put_simpler_coords : goal.decreases-put_simpler_coords
decreases-put_simpler_coords l = length l.cs.now
