use Rattle.exo_types_laws.proofs.Units.{units_low}
use Rattle.exo_types_laws.proofs.laws.typed_units_are_low.Goals as goal

pub returns : goal.returns
returns c = units_low
