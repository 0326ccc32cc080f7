-- The claims so far.
use Rattle.std.proofs.Common.{◌≡◌, ◌++◌, map}
use Rattle.check_claims.specs.PlainClaim.{claim, placed}
use Rattle.check_claims.specs.Claims.{placed_at}
use Rattle.check_claims.proofs.list.place_each.Given as goal

abbrev pub invariant-loop-claim : goal.invariant-loop-claim
invariant-loop-claim l = map placed l.out.items ≡ map placed l.fn.out.items ++ placed_at l.path (map claim l.yielded)
