use Rattle.loop_laws.proofs.SameTurns.{grouped_loop}
use Rattle.loop_laws.proofs.laws.loops_are_grouped.Goals as goal

pub returns : goal.returns
returns c = grouped_loop
