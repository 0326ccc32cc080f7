use Rattle.buffer_laws.proofs.OfStaging.Known.{known_reader_law}
use Rattle.buffer_laws.proofs.staging.laws.known_readers_are_loaded.Goals as goal

pub returns : goal.returns
returns c = known_reader_law
