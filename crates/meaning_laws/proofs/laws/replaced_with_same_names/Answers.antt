use Rattle.meaning_laws.proofs.Replace.{names_law}
use Rattle.meaning_laws.proofs.laws.replaced_with_same_names.Goals as goal

pub returns : goal.returns
returns c = names_law
