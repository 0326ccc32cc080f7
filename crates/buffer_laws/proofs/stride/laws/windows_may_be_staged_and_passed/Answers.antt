use Rattle.buffer_laws.proofs.OfStride.StagePassed.{stage_passed_law}
use Rattle.buffer_laws.proofs.stride.laws.windows_may_be_staged_and_passed.Goals as goal

pub returns : goal.returns
returns c = stage_passed_law
