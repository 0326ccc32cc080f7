use Rattle.exo_types_laws.proofs.OfStrings.SameNames.{same_conditions_at_place}
use Rattle.exo_types_laws.proofs.strings.laws.conditions_are_those_of_the_meaning.Goals as goal

pub returns : goal.returns
returns c = same_conditions_at_place
