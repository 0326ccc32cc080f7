use Rattle.std.proofs.Common.{◌∙◌, ap}
use Rattle.std.proofs.lemmas.List.{take_all}
use Rattle.affine_forms.specs.PlainTables.{plain_share, plain_shares}
use Rattle.affine_forms.proofs.RowLists.{grown}
use Rattle.affine_forms.proofs.row.duplicates.Goals as goal

pub loop-s-preserved : goal.loop-s-preserved
loop-s-preserved c = rw c.in_ok-push.ensures.items (grown plain_share plain_share _ c.args.shares.now c.loop-s.s-index _ c.s-item.result c.loop-s.invariant c.loop-s-test.true c.s-item.is c.in_ok-duplicate.ensures)

pub returns : goal.returns
returns c = c.loop-s.invariant ∙ ap plain_shares (take_all c.loop-s.s-index c.args.shares.now c.loop-s-test.false)
