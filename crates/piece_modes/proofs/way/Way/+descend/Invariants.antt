use Rattle.std.proofs.Common.{length}
use Rattle.piece_modes.proofs.way.Way.+descend.Given as goal

abbrev pub decreases-descend : goal.decreases-descend
decreases-descend l = length l.rest.now
