use Rattle.call_laws.proofs.OfCalls.InlineWindow.{views_may_go}
use Rattle.call_laws.proofs.calls.laws.views_may_go.Goals as goal

pub returns : goal.returns
returns c = views_may_go
