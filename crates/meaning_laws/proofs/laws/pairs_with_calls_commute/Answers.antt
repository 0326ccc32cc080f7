use Rattle.meaning_laws.proofs.UnitFootprints.{pairs_with_calls_commute}
use Rattle.meaning_laws.proofs.laws.pairs_with_calls_commute.Goals as goal

pub returns : goal.returns
returns c = pairs_with_calls_commute
