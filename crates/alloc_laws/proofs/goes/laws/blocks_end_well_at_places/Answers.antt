use Rattle.alloc_laws.proofs.OfGoes.EndsAtPlace.{ends_well_at_place}
use Rattle.alloc_laws.proofs.goes.laws.blocks_end_well_at_places.Goals as goal

pub returns : goal.returns
returns c = ends_well_at_place
