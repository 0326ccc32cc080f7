use Rattle.loop_laws.proofs.Specialize.{specialize_is_lawful}
use Rattle.loop_laws.proofs.laws.specialized_blocks_are_lawful.Goals as goal

pub returns : goal.returns
returns c = specialize_is_lawful
