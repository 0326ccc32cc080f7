use Rattle.std.proofs.Common.{◌+◌, ◌*◌}
use Rattle.unit_check.proofs.stripes.+halves.Given as goal

abbrev pub decreases-show_stripes : goal.decreases-show_stripes
decreases-show_stripes g l = 2 * l.count

abbrev pub decreases-front : goal.decreases-front
decreases-front g l = 2 * l.low + 1

abbrev pub decreases-back : goal.decreases-back
decreases-back g l = 2 * l.high + 1
