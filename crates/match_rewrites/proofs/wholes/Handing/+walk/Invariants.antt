use Rattle.match_rewrites.proofs.Together.{Says}
use Rattle.match_rewrites.proofs.wholes.Handing.+walk.Given as goal
use Rattle.check_claims.specs.Arguments.{passed_for}

abbrev pub invariant-hands_wholes-loop-k : goal.invariant-hands_wholes-loop-k
invariant-hands_wholes-loop-k l =
    Says (passed_for l.self.params.now l.self.args.now) l.b l.d l.k
