use Rattle.std.proofs.Common.{length}
use Rattle.tree_uses.proofs.mentions.after.+rest_in.Given as goal

abbrev pub decreases-rest_in : goal.decreases-rest_in
decreases-rest_in l = length l.path.now
