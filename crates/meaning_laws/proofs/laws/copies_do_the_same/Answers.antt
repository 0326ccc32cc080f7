use Rattle.meaning_laws.proofs.Copies.{copy_law}
use Rattle.meaning_laws.proofs.laws.copies_do_the_same.Goals as goal

pub returns : goal.returns
returns c = copy_law
