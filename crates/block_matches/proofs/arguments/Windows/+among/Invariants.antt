use Rattle.std.proofs.Common.{◌+◌, ◌*◌, length}
use Rattle.block_matches.proofs.arguments.Windows.+among.Given as goal

abbrev pub decreases-among : goal.decreases-among
decreases-among g l = 2 * length l.left.now

abbrev pub decreases-among_with : goal.decreases-among_with
decreases-among_with g l = 2 * length l.left.now + 1
