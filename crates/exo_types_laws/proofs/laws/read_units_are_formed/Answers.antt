use Rattle.exo_types_laws.proofs.Units.{read_units_formed}
use Rattle.exo_types_laws.proofs.laws.read_units_are_formed.Goals as goal

pub returns : goal.returns
returns c = read_units_formed c.typed_units_are_formed.ensures
