use Rattle.buffer_laws.proofs.OfStaging.Behind.{behind_law}
use Rattle.buffer_laws.proofs.staging.laws.nests_stand_behind.Goals as goal

pub returns : goal.returns
returns c = behind_law
