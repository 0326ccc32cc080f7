use Rattle.std.proofs.Common.{length}
use Rattle.tree_uses.proofs.puts.+nth_span.Given as goal

abbrev pub decreases-nth_span : goal.decreases-nth_span
decreases-nth_span l = length l.coords.now
