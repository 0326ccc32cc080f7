use Rattle.buffer_laws.proofs.Accumulated.{accum_law}
use Rattle.buffer_laws.proofs.laws.sums_are_kept.Goals as goal

pub returns : goal.returns
returns c = accum_law
