use Rattle.place_laws.proofs.OfScope.BranchesAtPlaces.{loop_of_none}
use Rattle.place_laws.proofs.scope.laws.loops_of_none_go.Goals as goal

pub returns : goal.returns
returns c = loop_of_none
