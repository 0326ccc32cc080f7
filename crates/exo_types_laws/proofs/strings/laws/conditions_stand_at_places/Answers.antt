use Rattle.exo_types_laws.proofs.OfStrings.Standing.{conditions_stand_at_place}
use Rattle.exo_types_laws.proofs.strings.laws.conditions_stand_at_places.Goals as goal

pub returns : goal.returns
returns c = conditions_stand_at_place
