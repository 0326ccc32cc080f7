use Rattle.buffer_laws.proofs.OfStaging.Readers.{reader_replaces}
use Rattle.buffer_laws.proofs.staging.laws.reading_blocks_may_be_replaced.Goals as goal

pub returns : goal.returns
returns c = reader_replaces
