use Rattle.std.proofs.Common.{◌≡◌, take}
use Rattle.affine_prover.specs.RowSets.Rows.{gcd_of}
use Rattle.affine_prover.proofs.row_sets.list.gcd_of.Given as goal

abbrev pub invariant-loop-c : goal.invariant-loop-c
invariant-loop-c l = l.g ≡ gcd_of (take l.c-index l.cs)
