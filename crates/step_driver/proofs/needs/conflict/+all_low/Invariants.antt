-- The rest falls.
use Rattle.std.proofs.Common.{length}
use Rattle.step_driver.proofs.needs.conflict.+all_low.Given as goal

abbrev pub decreases-all_low : goal.decreases-all_low
decreases-all_low l = length l.loops.now
