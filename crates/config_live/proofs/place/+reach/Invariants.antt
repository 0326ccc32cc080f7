use Rattle.std.proofs.Common.{length}
use Rattle.config_live.proofs.place.+reach.Given as goal

abbrev pub decreases-reach : goal.decreases-reach
decreases-reach l = length l.rest.now
