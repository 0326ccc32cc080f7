use Rattle.std.proofs.Common.{◌≡◌, drop}
use Rattle.ob_check.specs.Held.{held}
use Rattle.ob_check.specs.Settled.{knows_all}
use Rattle.ob_check.specs.Systems.{systems_of}
use Rattle.ob_check.proofs.cache.Cache.knows_all.Given as goal

abbrev pub invariant-loop-o : goal.invariant-loop-o
invariant-loop-o l =
    knows_all (held l.self) (systems_of (drop l.o-index l.obs)) ≡ knows_all (held l.self) (systems_of l.obs)
