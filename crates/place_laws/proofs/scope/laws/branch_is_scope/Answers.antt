use Rattle.place_laws.proofs.OfScope.Scopes.{branch_is_scope_law}
use Rattle.place_laws.proofs.scope.laws.branch_is_scope.Goals as goal

pub returns : goal.returns
returns c = branch_is_scope_law
