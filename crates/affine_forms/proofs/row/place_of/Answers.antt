use Rattle.std.proofs.Common.{◌∙◌, sym}
use Rattle.affine_forms.specs.PlainTables.{plain_row}
use Rattle.affine_forms.proofs.RowLists.{found_from}
use Rattle.affine_forms.proofs.row.place_of.Goals as goal

pub returns-then-is : goal.returns-then-is
returns-then-is c = found_from (plain_row c.args.row.now) c.args.rows.now c.loop-k.k c.index-rows-k.result c.loop-k-test.true c.index-rows-k.is (sym c.is.ensures ∙ c.if-is.true)
