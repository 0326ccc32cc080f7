use Rattle.std.proofs.Common.{◌∙◌, ap, map}
use Rattle.std.proofs.lemmas.List.{take_all}
use Rattle.affine_forms.specs.Tables.{known_row}
use Rattle.affine_forms.specs.PlainTables.{plain_row}
use Rattle.affine_forms.proofs.RowLists.{grown_plain, known_all}
use Rattle.affine_forms.proofs.row.line_of.Goals as goal

pub loop-other-preserved : goal.loop-other-preserved
loop-other-preserved c = rw c.in_ok-push.ensures.items (grown_plain (λ s. known_row c.args.lines.now (plain_row c.args.row.now) (plain_row s)) _ c.args.others.now c.loop-other.other-index _ c.other-item.result c.loop-other.invariant c.loop-other-test.true c.other-item.is c.in_ok-same.ensures)

pub returns : goal.returns
returns c = c.loop-other.invariant ∙ ap (map (λ s. known_row c.args.lines.now (plain_row c.args.row.now) (plain_row s))) (take_all c.loop-other.other-index c.args.others.now c.loop-other-test.false) ∙ known_all c.args.lines.now (plain_row c.args.row.now) c.args.others.now
