use Rattle.std.proofs.Common.{◌≤◌, length}
use Rattle.affine_systems.proofs.Sparse.{IsSparse}
use Rattle.affine_systems.proofs.numbering.sparse.Given as goal

abbrev pub invariant-loop-k : goal.invariant-loop-k
invariant-loop-k l = record { sparse : IsSparse l.terms.items l.k l.coefficients; inside : l.k ≤ length l.coefficients }
