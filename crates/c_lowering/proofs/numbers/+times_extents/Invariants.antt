use Rattle.std.proofs.Common.{length}
use Rattle.c_lowering.proofs.numbers.+times_extents.Given as goal

abbrev pub decreases-times_extents : goal.decreases-times_extents
decreases-times_extents l = length l.dims.now
