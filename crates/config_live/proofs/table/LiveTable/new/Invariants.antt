use Rattle.std.proofs.Common.{drop, length, map}
use Rattle.exo_tree.specs.PlainProcedure.{procedure}
use Rattle.config_live.specs.Ways.{IsStart}
use Rattle.config_live.proofs.Units.{SoFar}
use Rattle.config_live.proofs.table.LiveTable.new.Given as goal

-- the table of the procedures that are done, and a way that is at the beginning
abbrev pub invariant-loop-p : goal.invariant-loop-p
invariant-loop-p l =
    SoFar (length l.unit.fields) l.table.calls.items
    (map procedure (drop l.p-index l.p-items)) l.unit.procs
    × IsStart (length l.unit.fields) l.way
