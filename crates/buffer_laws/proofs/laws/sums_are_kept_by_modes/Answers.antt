use Rattle.buffer_laws.proofs.Accumulated.{accum_by_modes}
use Rattle.buffer_laws.proofs.laws.sums_are_kept_by_modes.Goals as goal

pub returns : goal.returns
returns c = accum_by_modes
