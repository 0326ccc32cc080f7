use Rattle.loop_laws.proofs.SameTurns.{substituted_turn}
use Rattle.loop_laws.proofs.laws.expressions_stand_for_turns.Goals as goal

pub returns : goal.returns
returns c = substituted_turn
