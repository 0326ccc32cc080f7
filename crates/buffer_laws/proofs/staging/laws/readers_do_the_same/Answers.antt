use Rattle.buffer_laws.proofs.OfStaging.Reader.{reader_law}
use Rattle.buffer_laws.proofs.staging.laws.readers_do_the_same.Goals as goal

pub returns : goal.returns
returns c = reader_law
