use Rattle.schedule_laws.proofs.OfNames.Blocks.{copies_are_named}
use Rattle.schedule_laws.proofs.names.laws.copies_are_named.Goals as goal

pub returns : goal.returns
returns c = copies_are_named
