use Rattle.std.proofs.Common.{◌+◌, ◌*◌, suc}
use Rattle.exo_tree.specs.PlainDatum.{datum}
use Rattle.memory_kinds.proofs.Weights.{weight}
use Rattle.memory_kinds.proofs.check.+reads.Given as goal

abbrev pub decreases-check_reads : goal.decreases-check_reads
decreases-check_reads l = 2 * weight (datum l.e.now)

abbrev pub decreases-check_both : goal.decreases-check_both
decreases-check_both l = suc (2 * (weight (datum l.a.now) + weight (datum l.b.now)))
