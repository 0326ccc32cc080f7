use Rattle.call_laws.proofs.OfCalls.Callees.{callee_calls_before}
use Rattle.call_laws.proofs.calls.laws.callees_call_those_before.Goals as goal

pub returns : goal.returns
returns c = callee_calls_before
