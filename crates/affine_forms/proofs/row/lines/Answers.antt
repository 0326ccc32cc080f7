use Rattle.std.proofs.Common.{◌∙◌, sym, ap, map}
use Rattle.affine_forms.specs.Tables.{known_row}
use Rattle.affine_forms.specs.PlainTables.{plain_row, plain_rows}
use Rattle.affine_forms.proofs.RowLists.{lines_step, lines_end}
use Rattle.affine_forms.proofs.row.lines.Goals as goal

pub loop-row-preserved : goal.loop-row-preserved
loop-row-preserved c = rw c.in_ok-push.ensures.items (lines_step c.loop-row.lines.items c.args.rows.now (plain_rows c.args.others.now) c.loop-row.row-index c.row-item.result c.in_ok-next.next c.loop-row-test.true c.row-item.is (c.in_ok-next.ensures ∙ ap (λ ls. map (known_row ls (plain_row c.row-item.result)) (plain_rows c.args.others.now)) c.deref.ensures.value) ∙ c.loop-row.invariant)

pub returns : goal.returns
returns c = sym (lines_end c.loop-row.lines.items c.args.rows.now (plain_rows c.args.others.now) c.loop-row.row-index c.loop-row-test.false) ∙ c.loop-row.invariant
