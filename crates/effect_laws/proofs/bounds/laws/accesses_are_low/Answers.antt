use Rattle.effect_laws.proofs.OfBounds.LowAccesses.{accesses_low}
use Rattle.effect_laws.proofs.bounds.laws.accesses_are_low.Goals as goal

pub returns : goal.returns
returns c = accesses_low c.well_formed_procedures_are_low.ensures c.uses_are_low.ensures
