use Rattle.call_laws.proofs.OfCalls.Fresh.{fresh_anywhere}
use Rattle.call_laws.proofs.calls.laws.any_new_ids_rename_callees.Goals as goal

pub returns : goal.returns
returns c = fresh_anywhere
