use Rattle.std.proofs.Common.{◌≡◌, drop}
use Rattle.schedule_run.proofs.changed.same_from.Given as goal

abbrev pub invariant-loop-k : goal.invariant-loop-k
invariant-loop-k l = drop l.k l.old ≡ drop l.k l.new → drop l.from l.old ≡ drop l.from l.new
