use Rattle.std.proofs.Common.{◌≡◌, take, drop, map}
use Rattle.std.specs.Int.{int_div_euclid}
use Rattle.affine_prover.proofs.row_sets.list.divide_all.Given as goal

abbrev pub invariant-loop-c : goal.invariant-loop-c
invariant-loop-c l = record {
  done : take l.c-index l.cs ≡ map (λ c. int_div_euclid c l.g) (take l.c-index l.initial.cs);
  left : drop l.c-index l.cs ≡ drop l.c-index l.initial.cs;
}
