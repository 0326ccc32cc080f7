use Rattle.place_laws.proofs.OfScope.WellAtPlace.{well_put}
use Rattle.place_laws.proofs.scope.laws.rules_hold_with_other_blocks.Goals as goal

pub returns : goal.returns
returns c = well_put
