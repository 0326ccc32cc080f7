use Rattle.place_laws.proofs.OfScope.Bare.{same_but_for_names}
use Rattle.place_laws.proofs.scope.laws.blocks_with_other_names_do_the_same.Goals as goal

pub returns : goal.returns
returns c = same_but_for_names
