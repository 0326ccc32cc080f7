use Rattle.std.proofs.Common.{length}
use Rattle.stage_rewrites.proofs.tested.spans.Spanning.+arguments_span.Given as goal

abbrev pub decreases-arguments_span : goal.decreases-arguments_span
decreases-arguments_span l = length l.args.now
