use Rattle.call_laws.proofs.OfCalls.InlineWindow.{nothing_follows}
use Rattle.call_laws.proofs.calls.laws.views_with_what_follows_are_last.Goals as goal

pub returns : goal.returns
returns c = nothing_follows
