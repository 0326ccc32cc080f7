use Rattle.exo_types_laws.proofs.OfShown.Alone.{conditions_are_spelled}
use Rattle.exo_types_laws.proofs.shown.laws.conditions_are_spelled.Goals as goal

pub returns : goal.returns
returns c = conditions_are_spelled
