use Rattle.std.proofs.Common.{◌≡◌, ◌++◌, ◌∷◌, []}
use Rattle.std.specs.List.{flat_map}
use Rattle.affine_prover.specs.RowSets.Rows.{negated}
use Rattle.affine_prover.proofs.row_sets.equations.two_rows_each.Given as goal

abbrev pub invariant-loop-e : goal.invariant-loop-e
invariant-loop-e l = l.all.items ≡ l.fn.rows.items ++ flat_map (λ e. e ∷ negated e ∷ []) l.yielded
