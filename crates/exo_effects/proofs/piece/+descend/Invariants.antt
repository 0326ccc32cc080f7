use Rattle.std.proofs.Common.{length}
use Rattle.exo_effects.proofs.piece.+descend.Given as goal

abbrev pub decreases-descend : goal.decreases-descend
decreases-descend l = length l.rest.now
