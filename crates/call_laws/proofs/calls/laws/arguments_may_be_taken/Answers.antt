use Rattle.call_laws.proofs.OfCalls.Takes.{calls_take}
use Rattle.call_laws.proofs.calls.laws.arguments_may_be_taken.Goals as goal

pub returns : goal.returns
returns c = calls_take
