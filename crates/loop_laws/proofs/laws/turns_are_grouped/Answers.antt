use Rattle.loop_laws.proofs.Turns.{grouped_turns}
use Rattle.loop_laws.proofs.laws.turns_are_grouped.Goals as goal

pub returns : goal.returns
returns c = grouped_turns
