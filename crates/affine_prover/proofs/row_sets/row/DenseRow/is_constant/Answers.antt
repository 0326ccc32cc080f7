use Rattle.std.proofs.Common.{ap, sym, ◌∙◌}
use Rattle.std.specs.Prelude.{is_some}
use Rattle.affine_prover.proofs.OfRowSets.RowFacts.{none-present}
use Rattle.affine_prover.proofs.row_sets.row.DenseRow.is_constant.Goals as goal

pub returns : goal.returns
returns c = none-present c.args.self.now.coefficients c.is_none.result (ap is_some (sym c.trailing.ensures) ∙ c.is_none.ensures)
