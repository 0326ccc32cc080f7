use Rattle.call_laws.proofs.OfCalls.Callees.{callee_at}
use Rattle.call_laws.proofs.calls.laws.callees_stand_at_their_numbers.Goals as goal

pub returns : goal.returns
returns c = callee_at
