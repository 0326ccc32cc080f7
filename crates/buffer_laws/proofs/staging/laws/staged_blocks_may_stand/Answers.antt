use Rattle.buffer_laws.proofs.OfStaging.Replaced.{staged_replaces}
use Rattle.buffer_laws.proofs.staging.laws.staged_blocks_may_stand.Goals as goal

pub returns : goal.returns
returns c = staged_replaces
