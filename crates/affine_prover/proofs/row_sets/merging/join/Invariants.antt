use Rattle.std.proofs.Common.{◌≡◌, ◌++◌, take, drop}
use Rattle.affine_prover.specs.RowSets.Rows.{joined}
use Rattle.affine_prover.proofs.row_sets.merging.join.Given as goal

abbrev pub invariant-loop-i : goal.invariant-loop-i
invariant-loop-i l = record {
  same : l.kept.items ≡ l.fn.kept.items;
  joins : take l.i l.kept.items ++ joined (drop l.i l.kept.items) l.fn.row ≡ joined l.fn.kept.items l.fn.row;
}
