use Rattle.meaning_laws.proofs.WellFormed.{well_scoped}
use Rattle.meaning_laws.proofs.laws.well_formed_names_are_in_scope.Goals as goal

pub returns : goal.returns
returns c = well_scoped
