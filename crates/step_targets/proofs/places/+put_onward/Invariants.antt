-- The rest falls.
use Rattle.std.proofs.Common.{length}
use Rattle.step_targets.proofs.places.+put_onward.Given as goal

abbrev pub decreases-put_onward : goal.decreases-put_onward
decreases-put_onward l = length l.at.now
