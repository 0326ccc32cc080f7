use Rattle.call_laws.proofs.OfCalls.OfNames.Renamings.{injections_extend}
use Rattle.call_laws.proofs.calls.names.laws.injections_extend.Goals as goal

pub returns : goal.returns
returns c = injections_extend
