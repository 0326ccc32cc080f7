use Rattle.buffer_laws.proofs.OfStaging.Alone.{alone_law}
use Rattle.buffer_laws.proofs.staging.laws.lone_blocks_may_be_staged.Goals as goal

pub returns : goal.returns
returns c = alone_law
