use Rattle.place_laws.proofs.OfScope.MadeCopies.{made_copies_are_apart}
use Rattle.place_laws.proofs.scope.laws.made_copies_are_apart.Goals as goal

pub returns : goal.returns
returns c = made_copies_are_apart
