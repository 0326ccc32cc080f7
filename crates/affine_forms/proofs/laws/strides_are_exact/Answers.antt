use Rattle.affine_forms.proofs.Strides.{stride_law}
use Rattle.affine_forms.proofs.laws.strides_are_exact.Goals as goal

pub returns : goal.returns
returns c = stride_law
