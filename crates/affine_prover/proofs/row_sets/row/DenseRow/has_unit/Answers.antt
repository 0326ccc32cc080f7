use Rattle.std.proofs.Common.{ap, ◌∙◌}
use Rattle.std.specs.Prelude.{is_some}
use Rattle.affine_prover.specs.RowSets.Rows.{is_unit}
use Rattle.affine_prover.proofs.OfRowSets.RowFacts.{place-any}
use Rattle.affine_prover.proofs.row_sets.row.DenseRow.has_unit.Goals as goal

pub returns : goal.returns
returns c = c.is_some.ensures ∙ ap is_some c.first_unit.ensures ∙ place-any is_unit c.args.self.now.coefficients
