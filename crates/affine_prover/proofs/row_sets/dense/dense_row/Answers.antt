use Rattle.std.proofs.Common.{subst, sym}
use Rattle.affine_forms.specs.System.{below}
use Rattle.affine_prover.specs.RowSets.Shapes.{AreNarrow}
use Rattle.affine_prover.proofs.OfRowSets.Spreading.{coefficients-narrow}
use Rattle.affine_prover.proofs.row_sets.dense.dense_row.Goals as goal

pub new-requires-clause-coefficients_narrow : goal.new-requires-clause-coefficients_narrow
new-requires-clause-coefficients_narrow c =
    subst AreNarrow (sym c.in_ok-coefficients.ensures) (coefficients-narrow c.args.row.now.terms.items (below c.args.n))
