use Rattle.buffer_laws.proofs.OfStaging.Converted.{converted_along}
use Rattle.buffer_laws.proofs.staging.laws.converted_blocks_are_same_along.Goals as goal

pub returns : goal.returns
returns c = converted_along
