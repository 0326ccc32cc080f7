use Rattle.place_laws.proofs.OfScope.Apart.{substituted_leaves}
use Rattle.place_laws.proofs.scope.laws.substituted_leaves.Goals as goal

pub returns : goal.returns
returns c = substituted_leaves
