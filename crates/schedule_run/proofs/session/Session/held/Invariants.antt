-- What the bindings so far hold.
use Rattle.std.proofs.Common.{◌≡◌, ◌≤◌, None, map, take, length}
use Rattle.schedule_laws.specs.Versions.Versions.{held_after}
use Rattle.schedule_run.specs.PlainVersions.{binding}
use Rattle.schedule_run.proofs.session.Session.held.Given as goal

abbrev pub invariant-loop-k : goal.invariant-loop-k
invariant-loop-k l = record {
  within : l.k ≤ length l.self.names.items;
  same :
      held_after None (map binding l.self.names.items) l.name
      ≡ held_after None (map binding (take l.k l.self.names.items)) l.name;
}

abbrev pub decreases-loop-k : goal.decreases-loop-k
decreases-loop-k l = l.k
