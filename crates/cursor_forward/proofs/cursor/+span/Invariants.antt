use Rattle.std.proofs.Common.{length}
use Rattle.cursor_forward.proofs.cursor.+span.Given as goal

abbrev pub decreases-span : goal.decreases-span
decreases-span l = length l.first.now
