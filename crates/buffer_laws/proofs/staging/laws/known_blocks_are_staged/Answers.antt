use Rattle.buffer_laws.proofs.OfStaging.Known.{known_law}
use Rattle.buffer_laws.proofs.staging.laws.known_blocks_are_staged.Goals as goal

pub returns : goal.returns
returns c = known_law
