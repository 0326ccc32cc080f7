use Rattle.loop_laws.proofs.Specialize.{specialize_is_carrying}
use Rattle.loop_laws.proofs.laws.specialized_blocks_carry.Goals as goal

pub returns : goal.returns
returns c = specialize_is_carrying
