use Rattle.place_laws.proofs.OfScope.PlacesCompose.{places_compose}
use Rattle.place_laws.proofs.scope.laws.places_compose.Goals as goal

pub returns : goal.returns
returns c = places_compose
