use Rattle.place_laws.proofs.OfScope.BranchesAtPlaces.{taken_branch_law}
use Rattle.place_laws.proofs.scope.laws.taken_branches_stay.Goals as goal

pub returns : goal.returns
returns c = taken_branch_law
