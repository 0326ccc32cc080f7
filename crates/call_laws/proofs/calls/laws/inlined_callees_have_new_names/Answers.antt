use Rattle.call_laws.proofs.OfCalls.Inlinable.{new_names}
use Rattle.call_laws.proofs.calls.laws.inlined_callees_have_new_names.Goals as goal

pub returns : goal.returns
returns c = new_names
