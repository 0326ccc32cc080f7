use Rattle.c_unit_laws.proofs.Instance.{columns_have_c}
use Rattle.c_unit_laws.proofs.laws.columns_have_c.Goals as goal

pub returns : goal.returns
returns c = columns_have_c
