use Rattle.meaning_laws.proofs.UnitFootprints.{turns_with_calls_commute}
use Rattle.meaning_laws.proofs.laws.turns_with_calls_commute.Goals as goal

pub returns : goal.returns
returns c = turns_with_calls_commute
