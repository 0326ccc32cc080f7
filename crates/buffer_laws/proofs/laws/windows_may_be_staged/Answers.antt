use Rattle.buffer_laws.proofs.StageLaws.{stage_mem_law}
use Rattle.buffer_laws.proofs.laws.windows_may_be_staged.Goals as goal

pub returns : goal.returns
returns c = stage_mem_law
