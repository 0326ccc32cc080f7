use Rattle.exo_types.proofs.Spelled.{items_spelled}
use Rattle.exo_types.proofs.laws.units_are_wide.Goals as goal

pub returns : goal.returns
returns c = items_spelled
