use Rattle.buffer_laws.proofs.StageAccum.{sums_replace}
use Rattle.buffer_laws.proofs.laws.summing_blocks_may_be_replaced.Goals as goal

pub returns : goal.returns
returns c = sums_replace
