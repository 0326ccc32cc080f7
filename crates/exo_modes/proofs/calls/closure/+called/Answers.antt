use Rattle.std.proofs.Common.{◌≤◌, length, arith}
use Rattle.exo_tree.specs.PlainStatement.{statement}
use Rattle.exo_modes.proofs.OfCalls.Sets.{block_marked, block_ended}
use Rattle.exo_modes.proofs.calls.closure.+called.Goals as goal

pub mark_called-loop-k-preserved : goal.mark_called-loop-k-preserved
mark_called-loop-k-preserved t c = λ new h. c.loop-k.invariant new (block_marked c.args.b.now _ c.loop-k.k (statement c.statement.result.now) c.loop-k.marks c.mark_called_by.new.marks new c.statement.ensures.value c.mark_called_by.ensures h)

pub mark_called-returns : goal.mark_called-returns
mark_called-returns t c =
    let h : length c.args.b.now ≤ c.loop-k.k = omega
    (arith, c.len-k-end.ensures, c.loop-k-test.false) in
    c.loop-k.invariant c.loop-k.marks (block_ended c.args.b.now c.loop-k.k c.loop-k.marks h)
