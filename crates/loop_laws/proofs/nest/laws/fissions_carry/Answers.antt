use Rattle.loop_laws.proofs.OfNest.FissionRule.{fission_is_carrying}
use Rattle.loop_laws.proofs.nest.laws.fissions_carry.Goals as goal

pub returns : goal.returns
returns c = fission_is_carrying
