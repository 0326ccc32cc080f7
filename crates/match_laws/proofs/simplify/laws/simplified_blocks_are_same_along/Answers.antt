use Rattle.match_laws.proofs.OfSimplify.SimplifiedBlocks.{simplified_along}
use Rattle.match_laws.proofs.simplify.laws.simplified_blocks_are_same_along.Goals as goal

pub returns : goal.returns
returns c = simplified_along
