use Rattle.std.proofs.Common.{◌≡◌, true, map}
use Rattle.std.specs.List.{list_all}
use Rattle.affine_prover.specs.RowSets.Rows.{substituted, is_narrow_substituted}
use Rattle.affine_prover.proofs.row_sets.equations.substitute.Given as goal

abbrev pub invariant-loop-row : goal.invariant-loop-row
invariant-loop-row l = record {
  made : l.next.items ≡ map (substituted l.v l.e) l.yielded;
  narrow : list_all (is_narrow_substituted l.v l.e) l.yielded ≡ true;
}
