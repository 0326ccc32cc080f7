use Rattle.call_laws.proofs.Entries.{entry_reads}
use Rattle.call_laws.proofs.laws.entries_read.Goals as goal

pub returns : goal.returns
returns c = entry_reads
