use Rattle.affine_places.proofs.PlaceValues.{formula_at_place}
use Rattle.affine_places.proofs.laws.formulas_are_exact_at_places.Goals as goal

pub returns : goal.returns
returns c = formula_at_place
