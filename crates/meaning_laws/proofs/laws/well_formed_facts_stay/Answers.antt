use Rattle.meaning_laws.proofs.WellFormed.{well_known}
use Rattle.meaning_laws.proofs.laws.well_formed_facts_stay.Goals as goal

pub returns : goal.returns
returns c = well_known
