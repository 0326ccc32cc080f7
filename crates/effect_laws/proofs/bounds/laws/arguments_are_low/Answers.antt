use Rattle.effect_laws.proofs.OfBounds.LowAccesses.{arguments_low}
use Rattle.effect_laws.proofs.bounds.laws.arguments_are_low.Goals as goal

pub returns : goal.returns
returns c = arguments_low c.well_formed_procedures_are_low.ensures c.passed_is_low.ensures
