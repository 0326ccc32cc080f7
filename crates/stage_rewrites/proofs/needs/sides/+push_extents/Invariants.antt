use Rattle.std.proofs.Common.{length}
use Rattle.stage_rewrites.proofs.needs.sides.+push_extents.Given as goal

abbrev pub decreases-push_extents : goal.decreases-push_extents
decreases-push_extents l = length l.window.now
