use Rattle.buffer_laws.proofs.StageLaws.{stage_reader_law}
use Rattle.buffer_laws.proofs.laws.windows_of_readers_may_be_staged.Goals as goal

pub returns : goal.returns
returns c = stage_reader_law
