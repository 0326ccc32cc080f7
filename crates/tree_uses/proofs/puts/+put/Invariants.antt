use Rattle.std.proofs.Common.{◌+◌, ◌*◌, max}
use Rattle.exo_tree.proofs.control.Ctrl.TheLaws.{the_size}
use Rattle.tree_uses.proofs.puts.+put.Given as goal

abbrev pub decreases-put_control : goal.decreases-put_control
decreases-put_control g l = 3 * the_size l.e.now

abbrev pub decreases-boxed : goal.decreases-boxed
decreases-boxed g l = 3 * the_size l.e.now + 1

abbrev pub decreases-boxed_with : goal.decreases-boxed_with
decreases-boxed_with g l = 3 * max (the_size l.a.now) (the_size l.b.now) + 2
