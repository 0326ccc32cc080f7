use Rattle.buffer_laws.proofs.OfStaging.Loads.{stage_in_law}
use Rattle.buffer_laws.proofs.staging.laws.buffers_are_staged.Goals as goal

pub returns : goal.returns
returns c = stage_in_law
