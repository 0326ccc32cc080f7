use Rattle.call_laws.proofs.OfCalls.Inline.{inline_is_carrying}
use Rattle.call_laws.proofs.calls.laws.inlined_calls_carry.Goals as goal

pub returns : goal.returns
returns c = inline_is_carrying
