use Rattle.std.proofs.Common.{length}
use Rattle.stage_rewrites.proofs.nests.+loops_round.Given as goal

abbrev pub decreases-loops_round : goal.decreases-loops_round
decreases-loops_round l = length l.sizes.now
