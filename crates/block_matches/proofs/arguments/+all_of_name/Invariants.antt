use Rattle.std.proofs.Common.{length}
use Rattle.block_matches.proofs.arguments.+all_of_name.Given as goal

abbrev pub decreases-all_of_name : goal.decreases-all_of_name
decreases-all_of_name l = length l.uses.now
