use Rattle.place_laws.proofs.OfScope.Scopes.{open_scopes_law}
use Rattle.place_laws.proofs.scope.laws.open_scopes.Goals as goal

pub returns : goal.returns
returns c = open_scopes_law
