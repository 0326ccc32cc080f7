use Rattle.meaning_laws.proofs.Replace.{context_law}
use Rattle.meaning_laws.proofs.laws.replaced_refines.Goals as goal

pub returns : goal.returns
returns c = context_law
