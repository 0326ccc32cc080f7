use Rattle.std.proofs.Common.{◌≡◌, take, map, neg_ℤ}
use Rattle.affine_prover.proofs.row_sets.list.negated_list.Given as goal

abbrev pub invariant-loop-x : goal.invariant-loop-x
invariant-loop-x l = l.out.items ≡ map neg_ℤ (take l.x-index l.xs)
