use Rattle.buffer_laws.proofs.OfStaging.AtPlaces.{own_roots_law}
use Rattle.buffer_laws.proofs.staging.laws.buffers_are_their_roots.Goals as goal

pub returns : goal.returns
returns c = own_roots_law
