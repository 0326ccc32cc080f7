use Rattle.std.proofs.Common.{◌≡◌, false, not, map}
use Rattle.std.specs.List.{filter, list_any}
use Rattle.affine_prover.specs.RowSets.Rows.{tightened, is_constant, is_impossible}
use Rattle.affine_prover.proofs.equations.reduce.Given as goal

abbrev pub invariant-loop-e : goal.invariant-loop-e
invariant-loop-e l = record {
  made : l.kept.items ≡ filter (λ e. not (is_constant e)) (map tightened l.yielded);
  possible : list_any is_impossible l.yielded ≡ false;
}
