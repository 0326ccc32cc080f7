use Rattle.c_unit_laws.proofs.OfFollows.WithCalls.{blocks_follow}
use Rattle.c_unit_laws.proofs.follows.laws.blocks_follow.Goals as goal

pub returns : goal.returns
returns c = blocks_follow
