use Rattle.std.proofs.Common.{◌≡◌, map}
use Rattle.std.specs.List.{filter}
use Rattle.affine_prover.specs.RowSets.Rows.{is_free, is_lower_bound, is_upper_bound, without}
use Rattle.affine_prover.proofs.row_sets.signs.split.Given as goal

abbrev pub invariant-loop-row : goal.invariant-loop-row
invariant-loop-row l = record {
  frees : l.free.items ≡ map (without l.v) (filter (is_free l.v) l.yielded);
  lowers : l.lower.items ≡ filter (is_lower_bound l.v) l.yielded;
  uppers : l.upper.items ≡ filter (is_upper_bound l.v) l.yielded;
}
