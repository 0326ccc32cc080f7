use Rattle.affine_forms.proofs.NormalForm.{normal_law}
use Rattle.affine_forms.proofs.laws.normal_is_exact.Goals as goal

pub returns : goal.returns
returns c = normal_law
