use Rattle.buffer_laws.proofs.OfStaging.Converted.{converted_law}
use Rattle.buffer_laws.proofs.staging.laws.converted_blocks_do_the_same.Goals as goal

pub returns : goal.returns
returns c = converted_law
