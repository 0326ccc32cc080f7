-- What the procedures so far may write.
use Rattle.std.proofs.Common.{map, take, length}
use Rattle.exo_tree.specs.PlainProcedure.{procedure}
use Rattle.schedule_run.specs.Running.{AreWrites}
use Rattle.schedule_run.proofs.writes.writes_of.Given as goal

abbrev pub invariant-loop-p : goal.invariant-loop-p
invariant-loop-p l =
    AreWrites (length l.unit.fields) (take l.p-index (map procedure l.p-items)) l.table
