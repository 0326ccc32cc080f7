use Rattle.std.proofs.Common.{◌+◌, ◌*◌, max}
use Rattle.exo_tree.proofs.control.Ctrl.TheLaws.{the_size}
use Rattle.tree_uses.proofs.simple.forms.+simplified.Given as goal

abbrev pub decreases-with_operands : goal.decreases-with_operands
decreases-with_operands g l = 3 * the_size l.e.now

abbrev pub decreases-simplified : goal.decreases-simplified
decreases-simplified g l = 3 * the_size l.e.now + 1

abbrev pub decreases-both : goal.decreases-both
decreases-both g l = 3 * max (the_size l.a.now) (the_size l.b.now) + 2
