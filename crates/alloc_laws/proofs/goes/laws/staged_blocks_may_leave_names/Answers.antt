use Rattle.alloc_laws.proofs.OfGoes.StagedGoes.{staged_goes}
use Rattle.alloc_laws.proofs.goes.laws.staged_blocks_may_leave_names.Goals as goal

pub returns : goal.returns
returns c = staged_goes
