use Rattle.place_laws.proofs.OfScope.UnrollLoop.{unroll_law}
use Rattle.place_laws.proofs.scope.laws.loops_are_unrolled.Goals as goal

pub returns : goal.returns
returns c = unroll_law
