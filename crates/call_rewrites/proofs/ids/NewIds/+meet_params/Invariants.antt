use Rattle.std.proofs.Common.{length}
use Rattle.call_rewrites.proofs.ids.NewIds.+meet_params.Given as goal

abbrev pub decreases-meet_params : goal.decreases-meet_params
decreases-meet_params l = length l.params.now
