use Rattle.buffer_laws.proofs.OfStaging.Replaced.{staged_refines}
use Rattle.buffer_laws.proofs.staging.laws.staged_blocks_refine.Goals as goal

pub returns : goal.returns
returns c = staged_refines
