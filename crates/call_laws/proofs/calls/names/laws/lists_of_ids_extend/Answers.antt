use Rattle.call_laws.proofs.OfCalls.OfNames.Renamings.{lists_extend}
use Rattle.call_laws.proofs.calls.names.laws.lists_of_ids_extend.Goals as goal

pub returns : goal.returns
returns c = lists_extend
