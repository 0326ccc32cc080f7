use Rattle.exo_types_laws.proofs.OfStrings.SameNames.{same_names_at_place}
use Rattle.exo_types_laws.proofs.strings.laws.names_are_those_of_the_meaning.Goals as goal

pub returns : goal.returns
returns c = same_names_at_place
