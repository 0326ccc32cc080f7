use Rattle.buffer_laws.proofs.OfStaging.Stores.{stores_law}
use Rattle.buffer_laws.proofs.staging.laws.stores_copy_back.Goals as goal

pub returns : goal.returns
returns c = stores_law
