use Rattle.meaning_laws.proofs.ScopedCopies.{scoped_copies_are_same}
use Rattle.meaning_laws.proofs.laws.scoped_copies_are_same.Goals as goal

pub returns : goal.returns
returns c = scoped_copies_are_same
