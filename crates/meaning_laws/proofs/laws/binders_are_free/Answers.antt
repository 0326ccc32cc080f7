use Rattle.meaning_laws.proofs.Binders.{binders_law}
use Rattle.meaning_laws.proofs.laws.binders_are_free.Goals as goal

pub returns : goal.returns
returns c = binders_law
