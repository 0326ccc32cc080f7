use Rattle.exo_modes.proofs.OfCalls.Reach.{closed_is_closed}
use Rattle.exo_modes.proofs.calls.laws.closed_is_closed.Goals as goal

pub returns : goal.returns
returns c = closed_is_closed
