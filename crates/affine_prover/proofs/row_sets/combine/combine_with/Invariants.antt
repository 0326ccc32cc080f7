use Rattle.std.proofs.Common.{◌≡◌, ◌++◌, take, map, true}
use Rattle.std.specs.List.{list_all}
use Rattle.affine_prover.specs.RowSets.Rows.{combination, is_narrow_combination}
use Rattle.affine_prover.proofs.row_sets.combine.combine_with.Given as goal

abbrev pub invariant-loop-q : goal.invariant-loop-q
invariant-loop-q l = record {
  made : l.next.items ≡ l.fn.next.items ++ map (combination l.v l.p) (take l.q-index l.upper);
  narrow : list_all (is_narrow_combination l.v l.p) (take l.q-index l.upper) ≡ true;
}
