use Rattle.place_laws.proofs.OfScope.Opened.{branch_may_stand}
use Rattle.place_laws.proofs.scope.laws.branch_may_stand.Goals as goal

pub returns : goal.returns
returns c = branch_may_stand
