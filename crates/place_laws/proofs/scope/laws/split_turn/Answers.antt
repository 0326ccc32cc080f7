use Rattle.place_laws.proofs.OfScope.Scopes.{split_turn_law}
use Rattle.place_laws.proofs.scope.laws.split_turn.Goals as goal

pub returns : goal.returns
returns c = split_turn_law
