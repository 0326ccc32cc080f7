use Rattle.std.proofs.Common.{refl}
use Rattle.affine_systems.proofs.amount.Amount.none.Goals as goal

pub returns : goal.returns
returns c = record { count = refl; terms = refl; within = refl }
