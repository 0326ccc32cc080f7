use Rattle.exo_types_laws.proofs.OfShown.Named.{read_named}
use Rattle.exo_types_laws.proofs.shown.laws.read_units_are_named.Goals as goal

pub returns : goal.returns
returns c = read_named
