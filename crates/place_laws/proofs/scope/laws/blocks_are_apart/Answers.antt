use Rattle.place_laws.proofs.OfScope.Apart.{apart_law}
use Rattle.place_laws.proofs.scope.laws.blocks_are_apart.Goals as goal

pub returns : goal.returns
returns c = apart_law
