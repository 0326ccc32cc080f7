use Rattle.call_laws.proofs.Entries.{reads_there}
use Rattle.call_laws.proofs.laws.expressions_are_read_there.Goals as goal

pub returns : goal.returns
returns c = reads_there
