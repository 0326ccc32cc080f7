use Rattle.affine_prover.proofs.eliminate.+eliminate_behind.Given as goal

abbrev pub decreases-eliminate_behind : goal.decreases-eliminate_behind
decreases-eliminate_behind l = l.n
