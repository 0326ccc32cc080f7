use Rattle.buffer_laws.proofs.BoundAtPlaces.{bind_at_place}
use Rattle.buffer_laws.proofs.laws.parts_are_bound_by_types.Goals as goal

pub returns : goal.returns
returns c = bind_at_place
