use Rattle.meaning_laws.proofs.FreshCopies.{closed_copies_are_same}
use Rattle.meaning_laws.proofs.laws.closed_copies_are_same.Goals as goal

pub returns : goal.returns
returns c = closed_copies_are_same
