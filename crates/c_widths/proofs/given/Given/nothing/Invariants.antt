-- A row for each procedure so far.
use Rattle.std.proofs.Common.{◌≡◌, map, take}
use Rattle.exo_tree.specs.PlainProcedure.{procedure}
use Rattle.c_widths.proofs.Tables.{nothing_given}
use Rattle.c_widths.proofs.given.Given.nothing.Given as goal

abbrev pub invariant-loop-p : goal.invariant-loop-p
invariant-loop-p l = l.rows.items ≡ map nothing_given (map procedure (take l.p-index l.procs))
