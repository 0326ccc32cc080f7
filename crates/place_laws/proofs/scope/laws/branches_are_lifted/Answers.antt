use Rattle.place_laws.proofs.OfScope.BranchesAtPlaces.{lift_law}
use Rattle.place_laws.proofs.scope.laws.branches_are_lifted.Goals as goal

pub returns : goal.returns
returns c = lift_law
