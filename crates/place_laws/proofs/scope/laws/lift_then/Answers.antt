use Rattle.place_laws.proofs.OfScope.Turns.{lift_then_law}
use Rattle.place_laws.proofs.scope.laws.lift_then.Goals as goal

pub returns : goal.returns
returns c = lift_then_law
