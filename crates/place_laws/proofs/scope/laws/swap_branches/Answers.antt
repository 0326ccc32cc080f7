use Rattle.place_laws.proofs.OfScope.Turns.{swap_branches_law}
use Rattle.place_laws.proofs.scope.laws.swap_branches.Goals as goal

pub returns : goal.returns
returns c = swap_branches_law
