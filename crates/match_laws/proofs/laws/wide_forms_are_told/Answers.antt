use Rattle.match_laws.proofs.Widths.{too_wide_law}
use Rattle.match_laws.proofs.laws.wide_forms_are_told.Goals as goal

pub returns : goal.returns
returns c = too_wide_law
