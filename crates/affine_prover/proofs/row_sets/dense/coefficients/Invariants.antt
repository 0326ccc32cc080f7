use Rattle.std.proofs.Common.{◌≡◌, map}
use Rattle.affine_forms.specs.System.{coefficient_of, below}
use Rattle.affine_prover.proofs.row_sets.dense.coefficients.Given as goal

abbrev pub invariant-loop-v : goal.invariant-loop-v
invariant-loop-v l = l.all.items ≡ map (coefficient_of l.row.terms.items) (below l.v)
