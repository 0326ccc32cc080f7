-- The modes of the procedures so far.
use Rattle.std.proofs.Common.{◌≡◌, ◌≤◌, [], take, length}
use Rattle.exo_meaning.specs.Run.{kinds_of}
use Rattle.exo_meaning.specs.Modes.{all_modes}
use Rattle.exo_modes.specs.Seen.{rows_say}
use Rattle.exo_modes.proofs.table.ModeTable.extend.Given as goal

abbrev pub invariant-loop-k : goal.invariant-loop-k
invariant-loop-k l = (rows_say l.self.rows.items ≡ all_modes (kinds_of l.unit.fields) [] [] (take l.k l.unit.procs)) × (length l.self.rows.items ≡ l.k) × (l.k ≤ length l.unit.procs)
