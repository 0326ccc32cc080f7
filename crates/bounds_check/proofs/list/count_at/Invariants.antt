use Rattle.std.proofs.Common.{not}
use Rattle.check_claims.specs.PlainClaim.{placed}
use Rattle.bounds_check.specs.Paths.{same_path}
use Rattle.bounds_check.proofs.Counting.{PassedOver}
use Rattle.bounds_check.proofs.list.count_at.Given as goal

abbrev pub invariant-loop-k : goal.invariant-loop-k
invariant-loop-k l = PassedOver placed (λ c. not (same_path c.place l.place)) l.claims l.k
