use Rattle.std.proofs.Common.{◌≡◌}
use Rattle.affine_prover.specs.RowSets.Rows.{least_at, pairs}
use Rattle.affine_prover.proofs.row_sets.signs.cheapest.Given as goal

abbrev pub invariant-loop-v : goal.invariant-loop-v
invariant-loop-v l = record {
  bests : l.best ≡ least_at (pairs l.rows) l.v;
  leasts : l.least ≡ pairs l.rows l.best;
}
