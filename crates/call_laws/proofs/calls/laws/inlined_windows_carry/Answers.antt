use Rattle.call_laws.proofs.OfCalls.InlineWindow.{inline_window_is_carrying}
use Rattle.call_laws.proofs.calls.laws.inlined_windows_carry.Goals as goal

pub returns : goal.returns
returns c = inline_window_is_carrying
