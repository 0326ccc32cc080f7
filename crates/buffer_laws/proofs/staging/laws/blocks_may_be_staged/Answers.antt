use Rattle.buffer_laws.proofs.OfStaging.Whole.{staged_block_law}
use Rattle.buffer_laws.proofs.staging.laws.blocks_may_be_staged.Goals as goal

pub returns : goal.returns
returns c = staged_block_law
