use Rattle.std.proofs.Common.{◌≡◌, false, not, map}
use Rattle.std.specs.List.{filter, fold, list_any}
use Rattle.affine_prover.specs.RowSets.Rows.{joined, tightened, is_constant, is_false}
use Rattle.affine_prover.proofs.row_sets.merging.normalize.Given as goal

abbrev pub invariant-loop-row : goal.invariant-loop-row
invariant-loop-row l = record {
  merges : l.kept.items ≡ fold joined l.fn.settled.items (filter (λ r. not (is_constant r)) (map tightened l.yielded));
  possible : list_any is_false (map tightened l.yielded) ≡ false;
}
