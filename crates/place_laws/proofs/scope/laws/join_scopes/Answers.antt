use Rattle.place_laws.proofs.OfScope.Scopes.{join_scopes_law}
use Rattle.place_laws.proofs.scope.laws.join_scopes.Goals as goal

pub returns : goal.returns
returns c = join_scopes_law
