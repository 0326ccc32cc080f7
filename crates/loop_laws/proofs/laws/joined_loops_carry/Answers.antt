use Rattle.loop_laws.proofs.JoinRule.{join_is_carrying}
use Rattle.loop_laws.proofs.laws.joined_loops_carry.Goals as goal

pub returns : goal.returns
returns c = join_is_carrying
