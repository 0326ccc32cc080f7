use Rattle.std.proofs.Common.{length}
use Rattle.loop_rewrites.proofs.nest.same.+same_controls.Given as goal

abbrev pub decreases-same_controls : goal.decreases-same_controls
decreases-same_controls l = length l.one.now
