use Rattle.std.proofs.Common.{◌≡◌, map, take}
use Rattle.affine_forms.specs.Tables.{known_row}
use Rattle.affine_forms.specs.PlainTables.{plain_row}
use Rattle.affine_forms.proofs.row.line_of.Given as goal

abbrev pub invariant-loop-other : goal.invariant-loop-other
invariant-loop-other l = l.cells.items ≡ map (λ s. known_row l.lines (plain_row l.row) (plain_row s)) (take l.other-index l.others)
