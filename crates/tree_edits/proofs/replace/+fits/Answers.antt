use Rattle.std.proofs.Common.{sym, ◌∙◌}
use Rattle.exo_tree.specs.PlainStatement.{statement}
use Rattle.exo_tree.proofs.Heights.{height_of_part}
use Rattle.tree_edits.proofs.replace.+fits.Goals as goal

pub fits-returns-then-not-statement_fits : goal.fits-returns-then-not-statement_fits
fits-returns-then-not-statement_fits t c =
    let h = height_of_part c.args.b.now _ c.loop-k.k c.args.room (statement c.statement.result.now) c.statement.ensures.value in
    let g = c.if-not-statement_fits.true in
    (λ f. absurd (cc), λ f. sym g ∙ c.statement_fits.ensures.1 (h f))
