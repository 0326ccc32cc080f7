use Rattle.std.proofs.Common.{length}
use Rattle.stage_rewrites.proofs.needs.asking.Asking.+push_from.Given as goal

abbrev pub decreases-push_from : goal.decreases-push_from
decreases-push_from l = length l.at.now
