use Rattle.place_laws.proofs.OfScope.BranchesAtPlaces.{specialize_law}
use Rattle.place_laws.proofs.scope.laws.blocks_are_specialized.Goals as goal

pub returns : goal.returns
returns c = specialize_law
