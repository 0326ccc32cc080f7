use Rattle.exo_tree.proofs.data.DataExpr.TheLaws.{the_size}
use Rattle.buffer_rewrites.proofs.parts.+take.Given as goal

abbrev pub decreases-take : goal.decreases-take
decreases-take l = the_size l.e.now
