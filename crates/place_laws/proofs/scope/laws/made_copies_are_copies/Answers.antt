use Rattle.place_laws.proofs.OfScope.UnrollLoop.{made_copies_are_copies}
use Rattle.place_laws.proofs.scope.laws.made_copies_are_copies.Goals as goal

pub returns : goal.returns
returns c = made_copies_are_copies
