use Rattle.exo_types_laws.proofs.OfStrings.Standing.{controls_stand_at_place}
use Rattle.exo_types_laws.proofs.strings.laws.controls_stand_at_places.Goals as goal

pub returns : goal.returns
returns c = controls_stand_at_place
