-- The rest falls.
use Rattle.std.proofs.Common.{length}
use Rattle.step_targets.proofs.places.+put_all.Given as goal

abbrev pub decreases-put_all : goal.decreases-put_all
decreases-put_all l = length l.steps.now
