use Rattle.call_laws.proofs.OfCalls.Here.{at_once_here}
use Rattle.call_laws.proofs.calls.laws.calls_are_inlined_at_once.Goals as goal

pub returns : goal.returns
returns c = at_once_here
