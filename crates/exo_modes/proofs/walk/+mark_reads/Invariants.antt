use Rattle.std.proofs.Common.{suc, ◌+◌}
use Rattle.exo_modes.proofs.Weights.{weighs}
use Rattle.exo_modes.proofs.walk.+mark_reads.Given as goal

abbrev pub decreases-mark_reads : goal.decreases-mark_reads
decreases-mark_reads l = weighs l.e.now

abbrev pub decreases-mark_both : goal.decreases-mark_both
decreases-mark_both l = suc (weighs l.a.now + weighs l.b.now)
