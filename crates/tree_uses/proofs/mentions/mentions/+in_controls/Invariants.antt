use Rattle.std.proofs.Common.{length}
use Rattle.tree_uses.proofs.mentions.mentions.+in_controls.Given as goal

abbrev pub decreases-in_controls : goal.decreases-in_controls
decreases-in_controls g l = length l.es.now
