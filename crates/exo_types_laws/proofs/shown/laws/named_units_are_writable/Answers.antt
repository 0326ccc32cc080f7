use Rattle.exo_types_laws.proofs.OfShown.Writing.{named_writable}
use Rattle.exo_types_laws.proofs.shown.laws.named_units_are_writable.Goals as goal

pub returns : goal.returns
returns c = named_writable
