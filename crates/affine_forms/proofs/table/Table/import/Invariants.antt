use Rattle.std.proofs.Common.{◌≡◌, length}
use Rattle.affine_forms.specs.Tables.{Extends, Follows}
use Rattle.affine_forms.proofs.table.Table.import.Given as goal

abbrev pub invariant-loop-row : goal.invariant-loop-row
invariant-loop-row l = record {
  count : length l.numbers.items ≡ l.row-index;
  grown : Extends l.fn.self l.self;
  follows : Follows l.numbers.items l.self l.other;
}
