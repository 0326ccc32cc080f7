use Rattle.buffer_laws.proofs.ExpandText.{expand_text_refines}
use Rattle.buffer_laws.proofs.laws.buffers_are_expanded.Goals as goal

pub returns : goal.returns
returns c = expand_text_refines
