use Rattle.call_laws.proofs.OfCalls.InlineWindow.{inline_window_is_lawful}
use Rattle.call_laws.proofs.calls.laws.inlined_windows_are_lawful.Goals as goal

pub returns : goal.returns
returns c = inline_window_is_lawful
