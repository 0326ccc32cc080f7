use Rattle.std.proofs.Common.{arith}
use Rattle.match_rewrites.proofs.Together.{none_hands}
use Rattle.match_rewrites.proofs.wholes.Handing.+walk.Goals as goal
use Rattle.check_claims.specs.Arguments.{passed_for}

pub hands_wholes-returns : goal.hands_wholes-returns
hands_wholes-returns t c =
    none_hands (passed_for c.args.self.now.params.now c.args.self.now.args.now) c.args.b.now
    c.args.d.now c.loop-k.k c.loop-k.invariant
    (omega (arith, c.loop-k-test.false, c.min-k-end.ensures, c.len.ensures, c.len-2.ensures))
