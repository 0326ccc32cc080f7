use Rattle.buffer_laws.proofs.OfStride.Passed.{passed_replaces}
use Rattle.buffer_laws.proofs.stride.laws.passing_blocks_may_be_replaced.Goals as goal

pub returns : goal.returns
returns c = passed_replaces
