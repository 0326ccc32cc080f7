use Rattle.std.proofs.Common.{length}
use Rattle.affine_forms.proofs.stride.+is_one_open.Given as goal

abbrev pub decreases-is_one_open : goal.decreases-is_one_open
decreases-is_one_open l = length l.extents.now
