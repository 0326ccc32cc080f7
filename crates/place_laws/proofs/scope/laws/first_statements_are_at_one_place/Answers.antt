use Rattle.place_laws.proofs.OfScope.SamePlace.{same_place}
use Rattle.place_laws.proofs.scope.laws.first_statements_are_at_one_place.Goals as goal

pub returns : goal.returns
returns c = same_place
