use Rattle.call_laws.proofs.OfCalls.Fresh.{fresh_conditions_anywhere}
use Rattle.call_laws.proofs.calls.laws.callees_with_any_new_ids_may_be_inlined.Goals as goal

pub returns : goal.returns
returns c = fresh_conditions_anywhere
