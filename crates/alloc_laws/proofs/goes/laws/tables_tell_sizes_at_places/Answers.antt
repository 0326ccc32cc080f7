use Rattle.alloc_laws.proofs.OfGoes.Sizes.{sizes_at_place}
use Rattle.alloc_laws.proofs.goes.laws.tables_tell_sizes_at_places.Goals as goal

pub returns : goal.returns
returns c = sizes_at_place
