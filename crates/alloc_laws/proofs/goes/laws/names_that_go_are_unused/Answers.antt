use Rattle.alloc_laws.proofs.OfGoes.GoesDrafts.{goes_unused}
use Rattle.alloc_laws.proofs.goes.laws.names_that_go_are_unused.Goals as goal

pub returns : goal.returns
returns c = goes_unused
