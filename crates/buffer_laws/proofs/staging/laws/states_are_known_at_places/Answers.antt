use Rattle.buffer_laws.proofs.OfStaging.AtPlaces.{known_at_place}
use Rattle.buffer_laws.proofs.staging.laws.states_are_known_at_places.Goals as goal

pub returns : goal.returns
returns c = known_at_place
