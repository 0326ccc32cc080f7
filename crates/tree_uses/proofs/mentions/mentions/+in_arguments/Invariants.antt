use Rattle.std.proofs.Common.{length}
use Rattle.tree_uses.proofs.mentions.mentions.+in_arguments.Given as goal

abbrev pub decreases-in_arguments : goal.decreases-in_arguments
decreases-in_arguments g l = length l.args.now
