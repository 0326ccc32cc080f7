use Rattle.call_laws.proofs.OfCalls.OfNames.Bound.{bound_once}
use Rattle.call_laws.proofs.calls.names.laws.pieces_bind_once.Goals as goal

pub returns : goal.returns
returns c = bound_once
