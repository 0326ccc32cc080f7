use Rattle.match_laws.proofs.OfSimplify.SimplifiedBlocks.{simplified_run_law}
use Rattle.match_laws.proofs.simplify.laws.simplified_blocks_do_the_same.Goals as goal

pub returns : goal.returns
returns c = simplified_run_law
