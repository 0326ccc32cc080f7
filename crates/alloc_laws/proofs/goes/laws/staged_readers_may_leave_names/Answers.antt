use Rattle.alloc_laws.proofs.OfGoes.StagedGoes.{reader_goes}
use Rattle.alloc_laws.proofs.goes.laws.staged_readers_may_leave_names.Goals as goal

pub returns : goal.returns
returns c = reader_goes
