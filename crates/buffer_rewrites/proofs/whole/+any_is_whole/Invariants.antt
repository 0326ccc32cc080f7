use Rattle.std.proofs.Common.{length}
use Rattle.buffer_rewrites.proofs.whole.+any_is_whole.Given as goal

abbrev pub decreases-any_is_whole : goal.decreases-any_is_whole
decreases-any_is_whole l = length l.args.now
