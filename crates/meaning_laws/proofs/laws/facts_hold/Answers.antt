use Rattle.meaning_laws.proofs.Facts.{facts_law}
use Rattle.meaning_laws.proofs.laws.facts_hold.Goals as goal

pub returns : goal.returns
returns c = facts_law
