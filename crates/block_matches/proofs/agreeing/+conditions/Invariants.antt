use Rattle.std.proofs.Common.{◌+◌, ◌*◌, max}
use Rattle.exo_tree.proofs.control.Cond.TheLaws.{the_size}
use Rattle.block_matches.proofs.agreeing.+conditions.Given as goal

abbrev pub decreases-conditions_agree : goal.decreases-conditions_agree
decreases-conditions_agree g l = 2 * the_size l.c.now

abbrev pub decreases-halves_agree : goal.decreases-halves_agree
decreases-halves_agree g l = 2 * max (the_size l.a.now) (the_size l.b.now) + 1
