use Rattle.call_laws.proofs.OfCalls.Callees.{callee_keeps_rules}
use Rattle.call_laws.proofs.calls.laws.callees_keep_rules.Goals as goal

pub returns : goal.returns
returns c = callee_keeps_rules
