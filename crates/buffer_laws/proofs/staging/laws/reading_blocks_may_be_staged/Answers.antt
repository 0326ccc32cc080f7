use Rattle.buffer_laws.proofs.OfStaging.Whole.{staged_reader_law}
use Rattle.buffer_laws.proofs.staging.laws.reading_blocks_may_be_staged.Goals as goal

pub returns : goal.returns
returns c = staged_reader_law
