use Rattle.affine_prover.proofs.equations.+solve.Given as goal

abbrev pub decreases-solve : goal.decreases-solve
decreases-solve l = l.n
