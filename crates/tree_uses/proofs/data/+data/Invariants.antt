use Rattle.std.proofs.Common.{◌+◌, ◌*◌, max}
use Rattle.exo_tree.proofs.data.DataExpr.TheLaws.{the_size}
use Rattle.tree_uses.proofs.data.+data.Given as goal

abbrev pub decreases-used_datum : goal.decreases-used_datum
decreases-used_datum g l = 3 * the_size l.e.now

abbrev pub decreases-boxed : goal.decreases-boxed
decreases-boxed g l = 3 * the_size l.e.now + 1

abbrev pub decreases-boxed_with : goal.decreases-boxed_with
decreases-boxed_with g l = 3 * max (the_size l.e.now) (the_size l.g.now) + 2
