use Rattle.buffer_laws.proofs.StageSums.{stage_sums_law}
use Rattle.buffer_laws.proofs.laws.windows_of_sums_may_be_staged.Goals as goal

pub returns : goal.returns
returns c = stage_sums_law
