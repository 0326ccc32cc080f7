use Rattle.place_laws.proofs.OfScope.Apart.{copy_avoids}
use Rattle.place_laws.proofs.scope.laws.copies_avoid_each_other.Goals as goal

pub returns : goal.returns
returns c = copy_avoids
