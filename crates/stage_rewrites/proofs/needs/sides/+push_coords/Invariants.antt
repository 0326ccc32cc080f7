use Rattle.std.proofs.Common.{length}
use Rattle.stage_rewrites.proofs.needs.sides.+push_coords.Given as goal

abbrev pub decreases-push_coords : goal.decreases-push_coords
decreases-push_coords l = length l.window.now
