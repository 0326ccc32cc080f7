-- No procedure that is done is too wide, and the table has what they give.
use Rattle.std.proofs.Common.{◌-◌, length}
use Rattle.exo_tree.specs.PlainUnit.{program}
use Rattle.exo_modes.specs.Calls.Marked.{contains}
use Rattle.c_widths.proofs.Searching.{IsDone}
use Rattle.c_widths.proofs.units.widest.Given as goal

abbrev pub invariant-loop-n : goal.invariant-loop-n
invariant-loop-n l = IsDone (program l.unit) (contains l.printed) (contains l.counted) (length l.procs - l.n) l.given
