use Rattle.loop_laws.proofs.Copies.{loops_of_no_turn_may_go}
use Rattle.loop_laws.proofs.laws.loops_of_no_turn_may_go.Goals as goal

pub returns : goal.returns
returns c = loops_of_no_turn_may_go
