use Rattle.exo_types_laws.proofs.OfShown.Alone.{controls_are_spelled}
use Rattle.exo_types_laws.proofs.shown.laws.controls_are_spelled.Goals as goal

pub returns : goal.returns
returns c = controls_are_spelled
