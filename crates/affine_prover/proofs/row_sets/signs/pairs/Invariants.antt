use Rattle.std.proofs.Common.{◌≡◌, ◌≤◌, ◌+◌, take}
use Rattle.std.specs.List.{count_by}
use Rattle.affine_prover.specs.RowSets.Rows.{is_lower_bound, is_upper_bound}
use Rattle.affine_prover.proofs.row_sets.signs.pairs.Given as goal

abbrev pub invariant-loop-row : goal.invariant-loop-row
invariant-loop-row l = record {
  lowers : l.lower ≡ count_by (is_lower_bound l.v) (take l.row-index l.rows);
  uppers : l.upper ≡ count_by (is_upper_bound l.v) (take l.row-index l.rows);
  all : l.lower + l.upper ≤ l.row-index;
}
