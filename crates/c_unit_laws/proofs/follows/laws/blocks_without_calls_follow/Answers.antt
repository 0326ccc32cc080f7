use Rattle.c_unit_laws.proofs.OfFollows.WithoutCalls.{blocks_without_calls_follow}
use Rattle.c_unit_laws.proofs.follows.laws.blocks_without_calls_follow.Goals as goal

pub returns : goal.returns
returns c = blocks_without_calls_follow
