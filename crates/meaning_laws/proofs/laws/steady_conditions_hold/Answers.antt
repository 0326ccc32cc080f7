use Rattle.meaning_laws.proofs.Facts.{steady_law}
use Rattle.meaning_laws.proofs.laws.steady_conditions_hold.Goals as goal

pub returns : goal.returns
returns c = steady_law
