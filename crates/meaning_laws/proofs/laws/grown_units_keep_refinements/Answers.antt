use Rattle.meaning_laws.proofs.Grown.{grown_refines}
use Rattle.meaning_laws.proofs.laws.grown_units_keep_refinements.Goals as goal

pub returns : goal.returns
returns c = grown_refines
