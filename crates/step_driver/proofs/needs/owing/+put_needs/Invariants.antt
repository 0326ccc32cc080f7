-- The rest falls.
use Rattle.std.proofs.Common.{length}
use Rattle.step_driver.proofs.needs.owing.+put_needs.Given as goal

abbrev pub decreases-put_needs : goal.decreases-put_needs
decreases-put_needs l = length l.needs.now
