use Rattle.call_laws.proofs.OfCalls.OfNames.Copies.{bodies_without_copies}
use Rattle.call_laws.proofs.calls.names.laws.bodies_without_copies_stay.Goals as goal

pub returns : goal.returns
returns c = bodies_without_copies
