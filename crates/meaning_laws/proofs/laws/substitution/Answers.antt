use Rattle.meaning_laws.proofs.Substitute.{substitution_law}
use Rattle.meaning_laws.proofs.laws.substitution.Goals as goal

pub returns : goal.returns
returns c = substitution_law
