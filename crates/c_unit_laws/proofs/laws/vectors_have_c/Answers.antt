use Rattle.c_unit_laws.proofs.Instance.{vectors_have_c}
use Rattle.c_unit_laws.proofs.laws.vectors_have_c.Goals as goal

pub returns : goal.returns
returns c = vectors_have_c
