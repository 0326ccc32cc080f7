use Rattle.exo_types_laws.proofs.OfShown.Readings.{procedures_are_spelled}
use Rattle.exo_types_laws.proofs.shown.laws.procedures_are_spelled.Goals as goal

pub returns : goal.returns
returns c = procedures_are_spelled
