use Rattle.std.proofs.Common.{length}
use Rattle.tree_uses.proofs.puts.+put_coords.Given as goal

abbrev pub decreases-put_coords : goal.decreases-put_coords
decreases-put_coords g l = length l.at.now
