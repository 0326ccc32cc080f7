use Rattle.alloc_laws.proofs.OfGoes.Asked.{asked_lies}
use Rattle.alloc_laws.proofs.goes.laws.asked_accesses_lie_within_windows.Goals as goal

pub returns : goal.returns
returns c = asked_lies
