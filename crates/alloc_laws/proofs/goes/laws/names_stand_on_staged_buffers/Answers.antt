use Rattle.alloc_laws.proofs.OfGoes.EndsStand.{names_stand}
use Rattle.alloc_laws.proofs.goes.laws.names_stand_on_staged_buffers.Goals as goal

pub returns : goal.returns
returns c = names_stand
