use Rattle.std.proofs.Common.{◌≡◌, take}
use Rattle.schedule_run.proofs.changed.same_first.Given as goal

abbrev pub invariant-loop-k : goal.invariant-loop-k
invariant-loop-k l = take l.k l.old ≡ take l.k l.new
