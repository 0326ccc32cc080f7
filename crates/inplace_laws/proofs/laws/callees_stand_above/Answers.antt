use Rattle.inplace_laws.proofs.Above.{above_law}
use Rattle.inplace_laws.proofs.laws.callees_stand_above.Goals as goal

pub returns : goal.returns
returns c = above_law
