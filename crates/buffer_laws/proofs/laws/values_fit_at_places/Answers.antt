use Rattle.buffer_laws.proofs.BoundAtPlaces.{bound_fits_at_place}
use Rattle.buffer_laws.proofs.laws.values_fit_at_places.Goals as goal

pub returns : goal.returns
returns c = bound_fits_at_place
