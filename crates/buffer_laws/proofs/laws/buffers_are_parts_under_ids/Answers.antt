use Rattle.buffer_laws.proofs.Expanded.{expand_under_ids}
use Rattle.buffer_laws.proofs.laws.buffers_are_parts_under_ids.Goals as goal

pub returns : goal.returns
returns c = expand_under_ids
