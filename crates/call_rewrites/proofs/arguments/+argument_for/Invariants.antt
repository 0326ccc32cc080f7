use Rattle.std.proofs.Common.{length}
use Rattle.call_rewrites.proofs.arguments.+argument_for.Given as goal

abbrev pub decreases-argument_for : goal.decreases-argument_for
decreases-argument_for l = length l.params.now
