use Rattle.alloc_laws.proofs.OfGoes.Passing.{silent_by_modes}
use Rattle.alloc_laws.proofs.goes.laws.blocks_are_silent_by_modes.Goals as goal

pub returns : goal.returns
returns c = silent_by_modes
