use Rattle.exo_modes.proofs.OfCalls.Reach.{seeds_are_closed}
use Rattle.exo_modes.proofs.calls.laws.seeds_are_closed.Goals as goal

pub returns : goal.returns
returns c = seeds_are_closed
