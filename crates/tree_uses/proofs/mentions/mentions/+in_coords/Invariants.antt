use Rattle.std.proofs.Common.{length}
use Rattle.tree_uses.proofs.mentions.mentions.+in_coords.Given as goal

abbrev pub decreases-in_coords : goal.decreases-in_coords
decreases-in_coords g l = length l.coords.now
