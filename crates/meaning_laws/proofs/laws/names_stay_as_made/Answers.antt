use Rattle.meaning_laws.proofs.Made.{made_law}
use Rattle.meaning_laws.proofs.laws.names_stay_as_made.Goals as goal

pub returns : goal.returns
returns c = made_law
