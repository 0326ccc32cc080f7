use Rattle.loop_laws.proofs.Turns.{moved_turns}
use Rattle.loop_laws.proofs.laws.turns_are_moved.Goals as goal

pub returns : goal.returns
returns c = moved_turns
