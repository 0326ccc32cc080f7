use Rattle.std.proofs.Common.{arith}
use Rattle.affine_forms.proofs.row.rows_to.Goals as goal

pub returns : goal.returns
returns c = grind arith
