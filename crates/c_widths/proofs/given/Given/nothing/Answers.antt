use Rattle.std.proofs.Common.{◌∙◌, ◌++◌, ◌∷◌, [], ap, map}
use Rattle.std.specs.Prelude.{replicate}
use Rattle.std.proofs.lemmas.List.{take_all}
use Rattle.exo_tree.specs.PlainProcedure.{procedure}
use Rattle.c_widths.proofs.Tables.{nothing_given, one_more_row}
use Rattle.c_widths.proofs.given.Given.nothing.Goals as goal

pub loop-p-preserved : goal.loop-p-preserved
loop-p-preserved c =
    let rows = c.loop-p.rows.items in
    let row = c.in_ok-row.ensures ∙ ap (λ n. replicate n 0) c.len.ensures in
    c.in_ok-push.ensures.items
    ∙ ap (λ r. rows ++ r ∷ []) row
    ∙ one_more_row procedure c.args.procs.now c.loop-p.p-index c.p-item.result rows
    c.loop-p-test.true c.p-item.is c.loop-p.invariant

pub returns : goal.returns
returns c = c.loop-p.invariant ∙ ap (λ ps. map nothing_given (map procedure ps))
    (take_all c.loop-p.p-index c.args.procs.now c.loop-p-test.false)
