use Rattle.std.proofs.Common.{length}
use Rattle.cursor_forward.proofs.shift.+way_below.Given as goal

abbrev pub decreases-way_below : goal.decreases-way_below
decreases-way_below l = length l.from.now
