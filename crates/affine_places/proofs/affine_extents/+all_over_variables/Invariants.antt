use Rattle.std.proofs.Common.{length}
use Rattle.affine_places.proofs.affine_extents.+all_over_variables.Given as goal

abbrev pub decreases-all_over_variables : goal.decreases-all_over_variables
decreases-all_over_variables l = length l.es.now
