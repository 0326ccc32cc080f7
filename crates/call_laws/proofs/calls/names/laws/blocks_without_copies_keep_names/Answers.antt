use Rattle.call_laws.proofs.OfCalls.OfNames.Copies.{no_copies}
use Rattle.call_laws.proofs.calls.names.laws.blocks_without_copies_keep_names.Goals as goal

pub returns : goal.returns
returns c = no_copies
