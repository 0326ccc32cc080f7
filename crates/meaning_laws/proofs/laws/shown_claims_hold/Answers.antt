use Rattle.meaning_laws.proofs.Known.{shown_law}
use Rattle.meaning_laws.proofs.laws.shown_claims_hold.Goals as goal

pub returns : goal.returns
returns c = shown_law
