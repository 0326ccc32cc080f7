use Rattle.std.proofs.Common.{length}
use Rattle.match_rewrites.proofs.wholes.Handing.+hand_on.Given as goal

abbrev pub decreases-hand_on : goal.decreases-hand_on
decreases-hand_on l = length l.ours.now
