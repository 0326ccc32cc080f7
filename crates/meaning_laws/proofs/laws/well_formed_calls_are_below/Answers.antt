use Rattle.meaning_laws.proofs.WellFormed.{calls_are_below}
use Rattle.meaning_laws.proofs.laws.well_formed_calls_are_below.Goals as goal

pub returns : goal.returns
returns c = calls_are_below
