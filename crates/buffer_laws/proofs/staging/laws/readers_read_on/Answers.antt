use Rattle.buffer_laws.proofs.OfStaging.ReadsOn.{reads_on_law}
use Rattle.buffer_laws.proofs.staging.laws.readers_read_on.Goals as goal

pub returns : goal.returns
returns c = reads_on_law
