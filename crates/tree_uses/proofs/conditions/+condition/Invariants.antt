use Rattle.std.proofs.Common.{◌+◌, ◌*◌, max}
use Rattle.exo_tree.proofs.control.Cond.TheLaws.{the_size}
use Rattle.tree_uses.proofs.conditions.+condition.Given as goal

abbrev pub decreases-used_condition : goal.decreases-used_condition
decreases-used_condition g l = 3 * the_size l.c.now

abbrev pub decreases-boxed : goal.decreases-boxed
decreases-boxed g l = 3 * the_size l.c.now + 1

abbrev pub decreases-boxed_with : goal.decreases-boxed_with
decreases-boxed_with g l = 3 * max (the_size l.c.now) (the_size l.d.now) + 2
