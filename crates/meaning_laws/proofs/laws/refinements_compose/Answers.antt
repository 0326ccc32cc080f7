use Rattle.meaning_laws.proofs.Chain.{chain_law}
use Rattle.meaning_laws.proofs.laws.refinements_compose.Goals as goal

pub returns : goal.returns
returns c = chain_law
