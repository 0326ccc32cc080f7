use Rattle.std.proofs.Common.{◌∙◌}
use Rattle.affine_prover.specs.RowSets.Rows.{is_unit}
use Rattle.affine_prover.proofs.OfRowSets.RowFacts.{place-some, place-none}
use Rattle.affine_prover.proofs.row_sets.row.DenseRow.unit_place.Goals as goal

pub returns-in-Some : goal.returns-in-Some
returns-in-Some c = place-some is_unit c.args.self.now.coefficients c.in-Some.v c.in-Some.ensures

pub returns-in-None : goal.returns-in-None
returns-in-None c = c.width.ensures ∙ place-none is_unit c.args.self.now.coefficients c.in-None.ensures
