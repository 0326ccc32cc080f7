use Rattle.buffer_laws.proofs.OfStaging.Alone.{unwritten_law}
use Rattle.buffer_laws.proofs.staging.laws.hidden_buffers_are_not_written.Goals as goal

pub returns : goal.returns
returns c = unwritten_law
