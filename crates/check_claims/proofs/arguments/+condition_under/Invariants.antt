use Rattle.std.proofs.Common.{◌+◌, ◌*◌, max}
use Rattle.exo_tree.proofs.control.Cond.TheLaws.{the_size}
use Rattle.check_claims.proofs.arguments.+condition_under.Given as goal

abbrev pub decreases-condition_under : goal.decreases-condition_under
decreases-condition_under l = 3 * the_size l.c.now

abbrev pub decreases-half_under : goal.decreases-half_under
decreases-half_under l = 3 * the_size l.c.now + 1

abbrev pub decreases-halves_under : goal.decreases-halves_under
decreases-halves_under l = 3 * max (the_size l.a.now) (the_size l.b.now) + 2
