use Rattle.std.proofs.Common.{length}
use Rattle.tree_edits.proofs.edit.+replaced_in.Given as goal

abbrev pub decreases-replaced_in : goal.decreases-replaced_in
decreases-replaced_in g l = length l.path.now
