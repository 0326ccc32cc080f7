-- The rest falls.
use Rattle.std.proofs.Common.{length}
use Rattle.schedule_calls.proofs.division.TailKeys.+with_all.Given as goal

abbrev pub decreases-with_all : goal.decreases-with_all
decreases-with_all l = length l.args.now
