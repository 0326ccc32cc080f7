use Rattle.buffer_laws.proofs.OfStaging.Box.{no_store_law}
use Rattle.buffer_laws.proofs.staging.laws.readers_need_no_store.Goals as goal

pub returns : goal.returns
returns c = no_store_law
