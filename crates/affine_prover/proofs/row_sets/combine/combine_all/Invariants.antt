use Rattle.std.proofs.Common.{◌≡◌, ◌++◌, take, map, true}
use Rattle.std.specs.List.{list_all, flat_map}
use Rattle.affine_prover.specs.RowSets.Rows.{combination, is_narrow_combination}
use Rattle.affine_prover.proofs.row_sets.combine.combine_all.Given as goal

abbrev pub invariant-loop-p : goal.invariant-loop-p
invariant-loop-p l = record {
  made : l.next.items ≡ l.fn.next.items ++ flat_map (λ p. map (combination l.v p) l.upper) (take l.p-index l.lower);
  narrow : list_all (λ p. list_all (is_narrow_combination l.v p) l.upper) (take l.p-index l.lower) ≡ true;
}
