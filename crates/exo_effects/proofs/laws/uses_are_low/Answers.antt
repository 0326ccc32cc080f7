use Rattle.exo_effects.proofs.LowUses.{uses_stay_low}
use Rattle.exo_effects.proofs.laws.uses_are_low.Goals as goal

pub returns : goal.returns
returns c = uses_stay_low
