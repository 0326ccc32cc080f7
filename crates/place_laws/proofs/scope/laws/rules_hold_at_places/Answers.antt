use Rattle.place_laws.proofs.OfScope.WellAtPlace.{well_at_place}
use Rattle.place_laws.proofs.scope.laws.rules_hold_at_places.Goals as goal

pub returns : goal.returns
returns c = well_at_place
