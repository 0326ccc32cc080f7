use Rattle.std.proofs.Common.{length}
use Rattle.stage_rewrites.proofs.tested.numbers.+are_plain.Given as goal

abbrev pub decreases-are_plain : goal.decreases-are_plain
decreases-are_plain l = length l.coords.now
