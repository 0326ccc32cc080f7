use Rattle.affine_places.proofs.WellFormed.{well_formed_is_affine}
use Rattle.affine_places.proofs.laws.well_formed_procedures_are_affine.Goals as goal

pub returns : goal.returns
returns c = well_formed_is_affine
