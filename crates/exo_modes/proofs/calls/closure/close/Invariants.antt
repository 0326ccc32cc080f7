-- What is reached through the last procedures.
use Rattle.std.proofs.Common.{◌-◌, drop, length, map}
use Rattle.exo_tree.specs.PlainProcedure.{procedure}
use Rattle.exo_modes.specs.Calls.Passed.{passed}
use Rattle.exo_modes.proofs.OfCalls.Sets.{ReachedFrom}
use Rattle.exo_modes.proofs.calls.closure.close.Given as goal

abbrev pub invariant-loop-k : goal.invariant-loop-k
invariant-loop-k l = ReachedFrom (passed l.through) (length l.procs - l.k) (map procedure (drop (length l.procs - l.k) l.procs)) l.initial.marks l.marks
