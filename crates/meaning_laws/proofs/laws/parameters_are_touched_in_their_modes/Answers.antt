use Rattle.meaning_laws.proofs.UnitFootprints.{modes_cover}
use Rattle.meaning_laws.proofs.laws.parameters_are_touched_in_their_modes.Goals as goal

pub returns : goal.returns
returns c = modes_cover
