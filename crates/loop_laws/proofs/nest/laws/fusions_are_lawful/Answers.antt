use Rattle.loop_laws.proofs.OfNest.Fuse.{fuse_is_lawful}
use Rattle.loop_laws.proofs.nest.laws.fusions_are_lawful.Goals as goal

pub returns : goal.returns
returns c = fuse_is_lawful
