use Rattle.buffer_laws.proofs.OfStaging.Stage.{stage_law}
use Rattle.buffer_laws.proofs.staging.laws.staging_does_the_same.Goals as goal

pub returns : goal.returns
returns c = stage_law
