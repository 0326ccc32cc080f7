use Rattle.place_laws.proofs.OfScope.Scopes.{open_scope_law}
use Rattle.place_laws.proofs.scope.laws.open_scope.Goals as goal

pub returns : goal.returns
returns c = open_scope_law
