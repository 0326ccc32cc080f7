use Rattle.std.proofs.Common.{◌<◌, ◌≤◌, min, length, drop, sym, ◌∙◌, arith}
use Rattle.exo_tree.specs.PlainStatement.{statement}
use Rattle.rules_names.proofs.OfScopes.Steps.{behind_on, behind_done, new_on}
use Rattle.rules_names.proofs.scopes.walk.bind_behind.Goals as goal

pub loop-k-preserved : goal.loop-k-preserved
loop-k-preserved c =
    let h : c.loop-k.k < c.args.count = omega (arith, c.loop-k-test.true, c.min-k-end.ensures) in (
      behind_on c.args.count c.loop-k.k c.loop-k.scope c.bind_after.new.scope (statement c.statement.result.now) (drop c.loop-k.k c.args.b.now) _ h c.statement.ensures.value c.in_ok-bind_after.ensures
          ∙ c.loop-k.invariant.0,
      new_on c.loop-k.scope c.bind_after.new.scope (statement c.statement.result.now) (drop c.loop-k.k c.args.b.now) _ c.statement.ensures.value c.in_ok-bind_after.ensures c.loop-k.invariant.1,
    )

pub returns : goal.returns
returns c =
    let h : min c.args.count (length c.args.b.now) ≤ c.loop-k.k = omega (arith, c.loop-k-test.false, c.min-k-end.ensures, c.len.ensures) in
    sym (behind_done c.args.count c.loop-k.k c.loop-k.scope c.args.b.now h) ∙ c.loop-k.invariant.0
