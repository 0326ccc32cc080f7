use Rattle.place_laws.proofs.OfScope.Roots.{names_have_roots}
use Rattle.place_laws.proofs.scope.laws.names_have_roots.Goals as goal

pub returns : goal.returns
returns c = names_have_roots
