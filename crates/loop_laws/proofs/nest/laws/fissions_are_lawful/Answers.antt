use Rattle.loop_laws.proofs.OfNest.FissionRule.{fission_is_lawful}
use Rattle.loop_laws.proofs.nest.laws.fissions_are_lawful.Goals as goal

pub returns : goal.returns
returns c = fission_is_lawful
