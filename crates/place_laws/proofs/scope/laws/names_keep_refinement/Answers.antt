use Rattle.place_laws.proofs.OfScope.Bare.{names_keep_refinement}
use Rattle.place_laws.proofs.scope.laws.names_keep_refinement.Goals as goal

pub returns : goal.returns
returns c = names_keep_refinement
