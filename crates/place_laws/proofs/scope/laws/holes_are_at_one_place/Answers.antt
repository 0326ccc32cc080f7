use Rattle.place_laws.proofs.OfScope.SameHole.{same_hole}
use Rattle.place_laws.proofs.scope.laws.holes_are_at_one_place.Goals as goal

pub returns : goal.returns
returns c = same_hole
