use Rattle.match_laws.proofs.OfSimplify.SimplifiedBlocks.{simplify_refines}
use Rattle.match_laws.proofs.simplify.laws.simplify_refines.Goals as goal

pub returns : goal.returns
returns c = simplify_refines
