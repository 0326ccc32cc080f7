use Rattle.std.proofs.Common.{◌≡◌, [], drop}
use Rattle.affine_forms.specs.Tables.{with_lines}
use Rattle.affine_forms.specs.PlainTables.{plain_rows}
use Rattle.affine_forms.proofs.row.lines.Given as goal

abbrev pub invariant-loop-row : goal.invariant-loop-row
invariant-loop-row l = with_lines l.lines.items (plain_rows (drop l.row-index l.rows)) (plain_rows l.others) ≡ with_lines [] (plain_rows l.rows) (plain_rows l.others)
