use Rattle.call_laws.proofs.OfCalls.OfNames.Bound.{bound_or_free}
use Rattle.call_laws.proofs.calls.names.laws.names_are_bound_or_free.Goals as goal

pub returns : goal.returns
returns c = bound_or_free
