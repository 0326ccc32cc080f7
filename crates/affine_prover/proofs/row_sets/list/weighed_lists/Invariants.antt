use Rattle.std.proofs.Common.{◌≡◌, true, take}
use Rattle.affine_prover.specs.RowSets.Rows.{weighed_lists, are_narrow_weighed}
use Rattle.affine_prover.proofs.row_sets.list.weighed_lists.Given as goal

abbrev pub invariant-loop-i : goal.invariant-loop-i
invariant-loop-i l = record {
  made : l.out.items ≡ weighed_lists l.f (take l.i l.xs) l.g (take l.i l.ys);
  narrow : are_narrow_weighed l.f (take l.i l.xs) l.g (take l.i l.ys) ≡ true;
}
