use Rattle.std.proofs.Common.{length}
use Rattle.stage_rewrites.proofs.tested.spans.+has_point.Given as goal

abbrev pub decreases-has_point : goal.decreases-has_point
decreases-has_point l = length l.window.now
