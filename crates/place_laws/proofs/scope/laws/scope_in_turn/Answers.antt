use Rattle.place_laws.proofs.OfScope.Scopes.{scope_in_turn_law}
use Rattle.place_laws.proofs.scope.laws.scope_in_turn.Goals as goal

pub returns : goal.returns
returns c = scope_in_turn_law
