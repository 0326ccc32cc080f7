use Rattle.std.proofs.Common.{◌≡◌, map, take}
use Rattle.affine_forms.specs.System.{plain_row}
use Rattle.affine_prover.proofs.row_sets.dense.dense_rows.Given as goal

abbrev pub invariant-loop-row : goal.invariant-loop-row
invariant-loop-row l = l.dense.items ≡ map (plain_row l.n) (take l.row-index l.rows)
