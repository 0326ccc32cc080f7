use Rattle.std.proofs.Common.{length}
use Rattle.tree_edits.proofs.edit.+alone_in.Given as goal

abbrev pub decreases-alone_in : goal.decreases-alone_in
decreases-alone_in l = length l.path.now
