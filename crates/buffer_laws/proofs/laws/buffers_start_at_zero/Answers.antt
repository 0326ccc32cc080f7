use Rattle.buffer_laws.proofs.Sums.{zeros_law}
use Rattle.buffer_laws.proofs.laws.buffers_start_at_zero.Goals as goal

pub returns : goal.returns
returns c = zeros_law
