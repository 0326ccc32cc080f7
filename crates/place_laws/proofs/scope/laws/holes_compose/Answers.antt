use Rattle.place_laws.proofs.OfScope.Within.{holes_compose}
use Rattle.place_laws.proofs.scope.laws.holes_compose.Goals as goal

pub returns : goal.returns
returns c = holes_compose
