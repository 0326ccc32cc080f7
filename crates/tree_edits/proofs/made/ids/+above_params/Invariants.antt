-- The rest falls.
use Rattle.std.proofs.Common.{length}
use Rattle.tree_edits.proofs.made.ids.+above_params.Given as goal

abbrev pub decreases-above_params : goal.decreases-above_params
decreases-above_params l = length l.params.now
