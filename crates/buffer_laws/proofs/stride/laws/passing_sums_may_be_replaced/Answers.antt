use Rattle.buffer_laws.proofs.OfStride.PassedSums.{passed_sums_replace}
use Rattle.buffer_laws.proofs.stride.laws.passing_sums_may_be_replaced.Goals as goal

pub returns : goal.returns
returns c = passed_sums_replace
