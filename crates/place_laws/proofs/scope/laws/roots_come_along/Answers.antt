use Rattle.place_laws.proofs.OfScope.Roots.{roots_come}
use Rattle.place_laws.proofs.scope.laws.roots_come_along.Goals as goal

pub returns : goal.returns
returns c = roots_come
