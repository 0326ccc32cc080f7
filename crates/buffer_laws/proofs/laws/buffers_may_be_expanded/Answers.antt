use Rattle.buffer_laws.proofs.Expanded.{expand_refines}
use Rattle.buffer_laws.proofs.laws.buffers_may_be_expanded.Goals as goal

pub returns : goal.returns
returns c = expand_refines
