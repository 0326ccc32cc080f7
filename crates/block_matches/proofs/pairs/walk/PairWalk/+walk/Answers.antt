use Rattle.std.proofs.Common.{◌+◌, drop, map, arith}
use Rattle.std.proofs.lemmas.Result.{on_ok_weaker}
use Rattle.exo_tree.specs.PlainPlace.{branch_taken}
use Rattle.exo_tree.specs.PlainProcedure.{procedure}
use Rattle.exo_tree.specs.PlainStatement.{statement}
use Rattle.inplace_laws.specs.Inline.{is_param}
use Rattle.block_matches.specs.Pairs.Held.{ids_in, names_in}
use Rattle.block_matches.specs.Pairs.PlainPair.{plain_pair}
use Rattle.block_matches.proofs.OfPairs.Walking.{one_on, some_left}
use Rattle.block_matches.proofs.pairs.walk.PairWalk.+walk.Goals as goal

pub push_block-loop-k-preserved : goal.push_block-loop-k-preserved
push_block-loop-k-preserved t c =
    let w = c.args.self.now in
    let k = c.loop-k.k in
    one_on (is_param (procedure w.callee.now)) (ids_in w.bound.now) (names_in w.ours.now)
    (names_in w.theirs.now) c.args.outer.now (branch_taken c.args.branch) k (k + 1)
    (map plain_pair c.loop-k.out.items) (map plain_pair c.push_statement.new.out.items) _
    c.in_ok-at.at (statement c.statement-s.result.now) (statement c.statement-t.result.now)
    (drop k c.args.body.now) _ (drop k c.args.against.now) _ (omega arith)
    c.statement-s.ensures.value c.statement-t.ensures.value c.in_ok-at.ensures
    c.in_ok-push_statement.ensures c.loop-k.invariant

pub push_block-returns : goal.push_block-returns
push_block-returns t c =
    let w = c.args.self.now in
    on_ok_weaker c.push_unlike.result
    (λ made. some_left (is_param (procedure w.callee.now)) (ids_in w.bound.now)
    (names_in w.ours.now) (names_in w.theirs.now) c.args.outer.now (branch_taken c.args.branch)
    c.loop-k.k c.min-common.result (map plain_pair c.loop-k.out.items)
    (map plain_pair c.push_unlike.new.out.items) _ c.in_ok-at-2.at c.args.body.now
    c.args.against.now
    (omega (
      arith,
      c.loop-k-test.false,
      c.loop-k.auto.k-end,
      c.min-common.ensures,
      c.len.ensures,
      c.len-2.ensures,
    ))
    (omega (arith, c.if-len.false, c.len-3.ensures, c.len-4.ensures))
    (omega (arith, c.loop-k-test.false, c.loop-k.auto.k-end)) c.in_ok-at-2.ensures made
    c.loop-k.invariant)
    c.push_unlike.ensures
