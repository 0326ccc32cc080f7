use Rattle.buffer_laws.proofs.OfStride.StagePassed.{stage_passed_sums_law}
use Rattle.buffer_laws.proofs.stride.laws.windows_of_sums_may_be_passed.Goals as goal

pub returns : goal.returns
returns c = stage_passed_sums_law
