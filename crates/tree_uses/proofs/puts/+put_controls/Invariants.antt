use Rattle.std.proofs.Common.{length}
use Rattle.tree_uses.proofs.puts.+put_controls.Given as goal

abbrev pub decreases-put_controls : goal.decreases-put_controls
decreases-put_controls g l = length l.at.now
