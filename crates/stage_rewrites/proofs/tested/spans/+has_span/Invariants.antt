use Rattle.std.proofs.Common.{length}
use Rattle.stage_rewrites.proofs.tested.spans.+has_span.Given as goal

abbrev pub decreases-has_span : goal.decreases-has_span
decreases-has_span l = length l.window.now
