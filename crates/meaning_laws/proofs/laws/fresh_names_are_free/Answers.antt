use Rattle.meaning_laws.proofs.Binders.{fresh_law}
use Rattle.meaning_laws.proofs.laws.fresh_names_are_free.Goals as goal

pub returns : goal.returns
returns c = fresh_law
