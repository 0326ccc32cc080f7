use Rattle.std.proofs.Common.{◌≡◌, map, take}
use Rattle.ob_check.specs.Rows.{row_numbers}
use Rattle.ob_check.proofs.copy.copies_of_rows.Given as goal

abbrev pub invariant-loop-r : goal.invariant-loop-r
invariant-loop-r l = map row_numbers l.all.items ≡ map row_numbers (take l.r-index l.rows)
