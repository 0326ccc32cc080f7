use Rattle.exo_types_laws.proofs.OfShown.Alone.{data_are_spelled}
use Rattle.exo_types_laws.proofs.shown.laws.data_are_spelled.Goals as goal

pub returns : goal.returns
returns c = data_are_spelled
