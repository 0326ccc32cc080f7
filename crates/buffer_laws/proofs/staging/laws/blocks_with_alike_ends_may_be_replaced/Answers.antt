use Rattle.buffer_laws.proofs.OfStaging.Replaced.{alike_replaces}
use Rattle.buffer_laws.proofs.staging.laws.blocks_with_alike_ends_may_be_replaced.Goals as goal

pub returns : goal.returns
returns c = alike_replaces
