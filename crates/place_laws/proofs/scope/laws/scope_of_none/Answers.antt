use Rattle.place_laws.proofs.OfScope.Turns.{scope_of_none_law}
use Rattle.place_laws.proofs.scope.laws.scope_of_none.Goals as goal

pub returns : goal.returns
returns c = scope_of_none_law
