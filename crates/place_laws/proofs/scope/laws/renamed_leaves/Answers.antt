use Rattle.place_laws.proofs.OfScope.Apart.{renamed_leaves}
use Rattle.place_laws.proofs.scope.laws.renamed_leaves.Goals as goal

pub returns : goal.returns
returns c = renamed_leaves
