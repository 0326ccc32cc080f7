use Rattle.ob_check.proofs.Answering.{rest_missing, one_known}
use Rattle.ob_check.proofs.obligations.all_known.Goals as goal

pub loop-one-preserved : goal.loop-one-preserved
loop-one-preserved c = record {
  rest = rest_missing c.args.found.now c.loop-one.one-index c.one-item.result c.args.decided.now c.loop-one.next c.own_count-next.result c.loop-one-test.true c.one-item.is c.own_count-next.ensures c.loop-one.invariant.rest;
  known = one_known c.args.found.now c.loop-one.one-index c.one-item.result c.loop-one.all.items c.push.new.self.items c.known_of-known.result c.loop-one-test.true c.one-item.is c.in_ok-push.ensures.items c.known_of-known.ensures c.loop-one.invariant.known;
}
