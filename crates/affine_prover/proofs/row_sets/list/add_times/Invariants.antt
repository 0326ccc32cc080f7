use Rattle.std.proofs.Common.{◌≡◌, true, pos, take, drop}
use Rattle.affine_prover.specs.RowSets.Rows.{weighed_lists, are_narrow_weighed}
use Rattle.affine_prover.proofs.row_sets.list.add_times.Given as goal

abbrev pub invariant-loop-i : goal.invariant-loop-i
invariant-loop-i l = record {
  done : take l.i l.xs ≡ weighed_lists (pos 1) (take l.i l.initial.xs) l.g (take l.i l.ys);
  left : drop l.i l.xs ≡ drop l.i l.initial.xs;
  narrow : are_narrow_weighed (pos 1) (take l.i l.initial.xs) l.g (take l.i l.ys) ≡ true;
}
