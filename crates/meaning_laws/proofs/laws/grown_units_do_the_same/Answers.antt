use Rattle.meaning_laws.proofs.Grown.{grown_law}
use Rattle.meaning_laws.proofs.laws.grown_units_do_the_same.Goals as goal

pub returns : goal.returns
returns c = grown_law
