use Rattle.call_laws.proofs.OfCalls.OfNames.Bound.{not_bound_again}
use Rattle.call_laws.proofs.calls.names.laws.names_in_scope_are_not_bound_again.Goals as goal

pub returns : goal.returns
returns c = not_bound_again
