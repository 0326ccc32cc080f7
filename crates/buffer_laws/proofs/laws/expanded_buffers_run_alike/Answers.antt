use Rattle.buffer_laws.proofs.ExpandText.{expand_text_law}
use Rattle.buffer_laws.proofs.laws.expanded_buffers_run_alike.Goals as goal

pub returns : goal.returns
returns c = expand_text_law
