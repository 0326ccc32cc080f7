use Rattle.place_laws.proofs.OfScope.Turns.{steady_in_loop_law}
use Rattle.place_laws.proofs.scope.laws.steady_in_loop.Goals as goal

pub returns : goal.returns
returns c = steady_in_loop_law
