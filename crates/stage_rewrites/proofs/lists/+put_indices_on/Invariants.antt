use Rattle.std.proofs.Common.{length}
use Rattle.stage_rewrites.proofs.lists.+put_indices_on.Given as goal

abbrev pub decreases-put_indices_on : goal.decreases-put_indices_on
decreases-put_indices_on l = length l.coords.now
