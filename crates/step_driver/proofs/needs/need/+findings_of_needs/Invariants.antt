-- The rest falls.
use Rattle.std.proofs.Common.{length}
use Rattle.step_driver.proofs.needs.need.+findings_of_needs.Given as goal

abbrev pub decreases-findings_of_needs : goal.decreases-findings_of_needs
decreases-findings_of_needs l = length l.needs.now
