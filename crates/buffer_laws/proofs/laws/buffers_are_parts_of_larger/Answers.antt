use Rattle.buffer_laws.proofs.Expanded.{expand_law}
use Rattle.buffer_laws.proofs.laws.buffers_are_parts_of_larger.Goals as goal

pub returns : goal.returns
returns c = expand_law
