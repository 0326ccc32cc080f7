use Rattle.buffer_laws.proofs.OfStaging.Loads.{loads_law}
use Rattle.buffer_laws.proofs.staging.laws.loads_copy_in.Goals as goal

pub returns : goal.returns
returns c = loads_law
