use Rattle.loop_laws.proofs.SameTurns.{moved_loop}
use Rattle.loop_laws.proofs.laws.loops_are_moved.Goals as goal

pub returns : goal.returns
returns c = moved_loop
