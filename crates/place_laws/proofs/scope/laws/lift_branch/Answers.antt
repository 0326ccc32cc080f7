use Rattle.place_laws.proofs.OfScope.Turns.{lift_branch_law}
use Rattle.place_laws.proofs.scope.laws.lift_branch.Goals as goal

pub returns : goal.returns
returns c = lift_branch_law
