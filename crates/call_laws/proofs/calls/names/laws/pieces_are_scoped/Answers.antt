use Rattle.call_laws.proofs.OfCalls.OfNames.Bound.{scoped_there}
use Rattle.call_laws.proofs.calls.names.laws.pieces_are_scoped.Goals as goal

pub returns : goal.returns
returns c = scoped_there
