use Rattle.meaning_laws.proofs.Fresh.{fresh_copy_law}
use Rattle.meaning_laws.proofs.laws.copies_have_fresh_binders.Goals as goal

pub returns : goal.returns
returns c = fresh_copy_law
