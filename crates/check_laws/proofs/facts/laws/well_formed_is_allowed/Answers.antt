use Rattle.check_laws.proofs.OfFacts.Affine.{well_formed_is_allowed}
use Rattle.check_laws.proofs.facts.laws.well_formed_is_allowed.Goals as goal

pub returns : goal.returns
returns c = well_formed_is_allowed
