use Rattle.std.proofs.Common.{◌+◌, ◌*◌, max}
use Rattle.exo_tree.proofs.control.Ctrl.TheLaws.{the_size}
use Rattle.check_claims.proofs.arguments.+under.Given as goal

abbrev pub decreases-control_under : goal.decreases-control_under
decreases-control_under l = 3 * the_size l.e.now

abbrev pub decreases-boxed_under : goal.decreases-boxed_under
decreases-boxed_under l = 3 * the_size l.e.now + 1

abbrev pub decreases-boxes_under : goal.decreases-boxes_under
decreases-boxes_under l = 3 * max (the_size l.a.now) (the_size l.b.now) + 2
