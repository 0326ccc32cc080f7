use Rattle.affine_prover.proofs.row_sets.number.+wide_gcd.Given as goal

abbrev pub decreases-wide_gcd : goal.decreases-wide_gcd
decreases-wide_gcd l = l.b
