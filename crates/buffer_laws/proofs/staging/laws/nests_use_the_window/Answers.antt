use Rattle.buffer_laws.proofs.OfStaging.Stage.{uses_law}
use Rattle.buffer_laws.proofs.staging.laws.nests_use_the_window.Goals as goal

pub returns : goal.returns
returns c = uses_law
