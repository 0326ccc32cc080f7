use Rattle.meaning_laws.proofs.WellFormed.{plain_bounds}
use Rattle.meaning_laws.proofs.laws.well_formed_bounds_are_plain.Goals as goal

pub returns : goal.returns
returns c = plain_bounds
