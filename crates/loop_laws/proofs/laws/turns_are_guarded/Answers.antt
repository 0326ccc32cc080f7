use Rattle.loop_laws.proofs.Turns.{guarded_turns}
use Rattle.loop_laws.proofs.laws.turns_are_guarded.Goals as goal

pub returns : goal.returns
returns c = guarded_turns
