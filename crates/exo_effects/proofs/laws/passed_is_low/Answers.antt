use Rattle.exo_effects.proofs.LowUses.{passed_stays_low}
use Rattle.exo_effects.proofs.laws.passed_is_low.Goals as goal

pub returns : goal.returns
returns c = passed_stays_low
