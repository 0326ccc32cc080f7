-- The rows of the procedures so far.
use Rattle.std.proofs.Common.{◌≡◌, ◌≤◌, length}
use Rattle.exo_tree.specs.PlainUnit.{program}
use Rattle.piece_modes.specs.Strides.Table.{AreFirst}
use Rattle.piece_modes.specs.Strides.PlainTable.{table_rows}
use Rattle.piece_modes.proofs.strides.table.StrideTable.extend.Given as goal

abbrev pub invariant-loop-k : goal.invariant-loop-k
invariant-loop-k l = AreFirst (table_rows l.self) (program l.unit) × (length l.self.rows.items ≡ l.k) × (l.k ≤ length l.unit.procs)
