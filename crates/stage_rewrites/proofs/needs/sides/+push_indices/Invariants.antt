use Rattle.std.proofs.Common.{length}
use Rattle.stage_rewrites.proofs.needs.sides.+push_indices.Given as goal

abbrev pub decreases-push_indices : goal.decreases-push_indices
decreases-push_indices l = length l.window.now
