use Rattle.std.proofs.Common.{arith, subst, All}
use Rattle.std.proofs.lemmas.List.{take_all}
use Rattle.ob_check.proofs.Answering.{IsShown, first_at, rest_missing, more_shown, answer_all, no_points}
use Rattle.ob_check.proofs.obligations.answer.Goals as goal

pub returns-then-is_refused-clause-exact : goal.returns-then-is_refused-clause-exact
returns-then-is_refused-clause-exact c = first_at c.args.found.now c.loop-index.index c.index-found-index.result c.verdict_of-verdict.result c.loop-index-test.true c.index-found-index.is c.loop-index.invariant.shown c.verdict_of-verdict.ensures (grind (arith, c.is_refused.ensures, c.if-is_refused.true))

pub loop-index-preserved : goal.loop-index-preserved
loop-index-preserved c = record {
  rest = rest_missing c.args.found.now c.loop-index.index c.index-found-index.result c.args.decided.now c.loop-index.next c.own_count-next.result c.loop-index-test.true c.index-found-index.is c.own_count-next.ensures c.loop-index.invariant.rest;
  shown = more_shown c.args.found.now c.loop-index.index c.index-found-index.result c.verdict_of-verdict.result c.loop-index-test.true c.index-found-index.is c.loop-index.invariant.shown c.verdict_of-verdict.ensures (grind (arith, c.is_refused.ensures, c.if-is_refused.false));
}

pub returns-clause-exact : goal.returns-clause-exact
returns-clause-exact c = answer_all c.args.found.now (subst (All IsShown) (take_all c.loop-index.index c.args.found.now c.loop-index-test.false) c.loop-index.invariant.shown)

pub returns-clause-shown : goal.returns-clause-shown
returns-clause-shown c = λ _. no_points c.args.found.now (subst (All IsShown) (take_all c.loop-index.index c.args.found.now c.loop-index-test.false) c.loop-index.invariant.shown)
