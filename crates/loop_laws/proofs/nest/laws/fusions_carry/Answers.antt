use Rattle.loop_laws.proofs.OfNest.Fuse.{fuse_is_carrying}
use Rattle.loop_laws.proofs.nest.laws.fusions_carry.Goals as goal

pub returns : goal.returns
returns c = fuse_is_carrying
