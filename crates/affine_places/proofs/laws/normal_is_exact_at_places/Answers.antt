use Rattle.affine_places.proofs.PlaceValues.{normal_at_place}
use Rattle.affine_places.proofs.laws.normal_is_exact_at_places.Goals as goal

pub returns : goal.returns
returns c = normal_at_place
