use Rattle.meaning_laws.proofs.UnitFootprints.{blocks_commute}
use Rattle.meaning_laws.proofs.laws.blocks_commute.Goals as goal

pub returns : goal.returns
returns c = blocks_commute
