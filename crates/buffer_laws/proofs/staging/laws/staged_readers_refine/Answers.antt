use Rattle.buffer_laws.proofs.OfStaging.Readers.{reader_refines}
use Rattle.buffer_laws.proofs.staging.laws.staged_readers_refine.Goals as goal

pub returns : goal.returns
returns c = reader_refines
