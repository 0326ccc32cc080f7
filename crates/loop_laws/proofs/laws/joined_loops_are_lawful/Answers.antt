use Rattle.loop_laws.proofs.JoinRule.{join_is_lawful}
use Rattle.loop_laws.proofs.laws.joined_loops_are_lawful.Goals as goal

pub returns : goal.returns
returns c = join_is_lawful
