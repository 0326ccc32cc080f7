use Rattle.std.proofs.Common.{length}
use Rattle.match_rewrites.proofs.matching.+param_name.Given as goal

abbrev pub decreases-param_name : goal.decreases-param_name
decreases-param_name l = length l.params.now
