use Rattle.meaning_laws.proofs.PlaceFacts.{place_facts_law}
use Rattle.meaning_laws.proofs.laws.place_facts_hold.Goals as goal

pub returns : goal.returns
returns c = place_facts_law
