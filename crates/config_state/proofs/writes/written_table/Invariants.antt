use Rattle.std.proofs.Common.{drop, length, map}
use Rattle.exo_tree.specs.PlainProcedure.{procedure}
use Rattle.config_state.proofs.Tables.{Written}
use Rattle.config_state.proofs.writes.written_table.Given as goal

abbrev pub invariant-loop-p : goal.invariant-loop-p
invariant-loop-p l = Written (length l.unit.fields) l.table (map procedure (drop l.p-index l.p-items)) l.unit.procs
