use Rattle.std.proofs.Common.{length}
use Rattle.affine_forms.proofs.stride.+extent_product.Given as goal

abbrev pub decreases-extent_product : goal.decreases-extent_product
decreases-extent_product g l = length l.extents.now
