use Rattle.std.proofs.Common.{length}
use Rattle.stage_rewrites.proofs.writing.+put_simpler.Given as goal

abbrev pub decreases-put_simpler : goal.decreases-put_simpler
decreases-put_simpler l = length l.es.now
