use Rattle.std.proofs.Common.{ap, ◌∙◌}
use Rattle.exo_tree.specs.Tree.{block}
use Rattle.exo_modes.specs.Marks.{together, block_marks, writing}
use Rattle.exo_modes.specs.Aliases.{roots_in}
use Rattle.exo_modes.specs.Seen.{rows_say}
use Rattle.exo_modes.proofs.Writes.{written_is}
use Rattle.exo_modes.proofs.walk.row_of.Goals as goal

pub returns-clause-says : goal.returns-clause-says
returns-clause-says c =
    let marks = block_marks c.args.above.now.procs.now (rows_say c.args.above.now.rows.now) in
    c.in_ok-walk_block.ensures.marks
    ∙ (λ i. together (c.new-row.ensures i) (marks (roots_in (c.new-aliases.ensures.items i)) (block c.args.body.now)))

pub returns-clause-writes : goal.returns-clause-writes
returns-clause-writes c =
    let marks = block_marks c.args.above.now.procs.now (rows_say c.args.above.now.rows.now) in
    ap writing (c.in_ok-walk_block.ensures.marks
    ∙ (λ i. together (c.new-row.ensures i) (marks (roots_in (c.new-aliases.ensures.items i)) (block c.args.body.now))))
    ∙ written_is c.args.above.now.procs.now c.args.above.now.rows.now (λ y. y) (block c.args.body.now)
