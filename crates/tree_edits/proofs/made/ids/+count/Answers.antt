use Rattle.std.proofs.Common.{◌≡◌, ℕ, ◌+◌, drop, take, length, ap, ◌∙◌, arith, add-one}
use Rattle.exo_tree.specs.Tree.{block}
use Rattle.exo_tree.specs.Renaming.{binders, binders_below}
use Rattle.exo_tree.specs.PlainStatement.{statement}
use Rattle.tree_edits.proofs.OfMade.Counts.{one_more}
use Rattle.tree_edits.proofs.made.ids.+count.Goals as goal

pub count_first-loop-k-preserved : goal.count_first-loop-k-preserved
count_first-loop-k-preserved t c =
    let more : length (binders (block (take (c.loop-k.k + 1) c.args.b.now))) ≡ length (binders (block (take c.loop-k.k c.args.b.now))) + length (binders_below (statement c.statement.result.now)) =
    ap (λ (n : ℕ). length (binders (block (take n c.args.b.now)))) (add-one c.loop-k.k)
    ∙ one_more c.args.b.now c.loop-k.k (statement c.statement.result.now) (drop (c.loop-k.k + 1) c.args.b.now) c.statement.ensures.value in
    omega (arith, more, c.loop-k.invariant, c.count_one.ensures, c.saturating_add-all.ensures)
