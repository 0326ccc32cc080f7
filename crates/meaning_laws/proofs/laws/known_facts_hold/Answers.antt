use Rattle.meaning_laws.proofs.Known.{known_law}
use Rattle.meaning_laws.proofs.laws.known_facts_hold.Goals as goal

pub returns : goal.returns
returns c = known_law
