use Rattle.std.proofs.Common.{◌+◌, ◌*◌, max}
use Rattle.exo_tree.proofs.control.Cond.TheLaws.{the_size}
use Rattle.exo_tree.proofs.control.Cond.+mapped.Given as goal

abbrev pub decreases-mapped : goal.decreases-mapped
decreases-mapped g l = 3 * the_size l.self.now

abbrev pub decreases-boxed : goal.decreases-boxed
decreases-boxed g l = 3 * the_size l.self.now + 1

abbrev pub decreases-boxed_with : goal.decreases-boxed_with
decreases-boxed_with g l = 3 * max (the_size l.self.now) (the_size l.other.now) + 2
