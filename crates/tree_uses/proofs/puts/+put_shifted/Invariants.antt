use Rattle.std.proofs.Common.{length}
use Rattle.tree_uses.proofs.puts.+put_shifted.Given as goal

abbrev pub decreases-put_shifted : goal.decreases-put_shifted
decreases-put_shifted g l = length l.coords.now
