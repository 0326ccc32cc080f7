use Rattle.meaning_laws.proofs.Pairs.{pairs_commute}
use Rattle.meaning_laws.proofs.laws.pairs_commute.Goals as goal

pub returns : goal.returns
returns c = pairs_commute
