use Rattle.exo_effects.proofs.LowProcedures.{well_formed_is_low}
use Rattle.exo_effects.proofs.laws.well_formed_procedures_are_low.Goals as goal

pub returns : goal.returns
returns c = well_formed_is_low
