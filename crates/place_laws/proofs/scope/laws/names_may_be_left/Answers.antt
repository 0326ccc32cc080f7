use Rattle.place_laws.proofs.OfScope.MayLeave.{may_leave_law}
use Rattle.place_laws.proofs.scope.laws.names_may_be_left.Goals as goal

pub returns : goal.returns
returns c = may_leave_law
