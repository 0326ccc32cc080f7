use Rattle.match_laws.proofs.OfSimplify.Simplified.{written_law}
use Rattle.match_laws.proofs.simplify.laws.sums_are_written_out.Goals as goal

pub returns : goal.returns
returns c = written_law
