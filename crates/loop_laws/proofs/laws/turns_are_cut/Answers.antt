use Rattle.loop_laws.proofs.Turns.{cut_turns}
use Rattle.loop_laws.proofs.laws.turns_are_cut.Goals as goal

pub returns : goal.returns
returns c = cut_turns
