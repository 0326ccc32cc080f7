use Rattle.place_laws.proofs.OfScope.Unrolled.{copies_may_stand}
use Rattle.place_laws.proofs.scope.laws.copies_may_stand.Goals as goal

pub returns : goal.returns
returns c = copies_may_stand
