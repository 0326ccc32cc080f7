use Rattle.std.proofs.Common.{◌≡◌, ◌+◌, drop, take, ap, ◌∙◌, arith, add-one}
use Rattle.exo_tree.specs.Nodes.{nodes, nodes_of}
use Rattle.exo_tree.specs.PlainStatement.{statement}
use Rattle.std.proofs.Common.{ℕ}
use Rattle.exo_tree.proofs.Counts.{one_more}
use Rattle.exo_tree.proofs.counted.+count.Goals as goal

pub count_first-loop-k-preserved : goal.count_first-loop-k-preserved
count_first-loop-k-preserved t c =
    let more : nodes_of (take (c.loop-k.k + 1) c.args.b.now) ≡ nodes_of (take c.loop-k.k c.args.b.now) + nodes (statement c.statement.result.now) =
    ap (λ (n : ℕ). nodes_of (take n c.args.b.now)) (add-one c.loop-k.k)
    ∙ one_more c.args.b.now c.loop-k.k (statement c.statement.result.now) (drop (c.loop-k.k + 1) c.args.b.now) c.statement.ensures.value in
    omega (arith, more, c.loop-k.invariant, c.count_one.ensures, c.saturating_add-all.ensures)
