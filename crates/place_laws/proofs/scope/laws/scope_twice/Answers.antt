use Rattle.place_laws.proofs.OfScope.Scopes.{scope_twice_law}
use Rattle.place_laws.proofs.scope.laws.scope_twice.Goals as goal

pub returns : goal.returns
returns c = scope_twice_law
