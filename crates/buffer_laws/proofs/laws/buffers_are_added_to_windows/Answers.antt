use Rattle.buffer_laws.proofs.Sums.{sums_law}
use Rattle.buffer_laws.proofs.laws.buffers_are_added_to_windows.Goals as goal

pub returns : goal.returns
returns c = sums_law
