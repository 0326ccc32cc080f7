use Rattle.std.proofs.Common.{◌≡◌, map, drop}
use Rattle.std.specs.Prelude.{fold}
use Rattle.ob_check.specs.Entries.{kept}
use Rattle.ob_check.specs.Held.{held}
use Rattle.ob_check.specs.Systems.{system_known}
use Rattle.ob_check.proofs.cache.Cache.keep_all.Given as goal

abbrev pub invariant-loop-known : goal.invariant-loop-known
invariant-loop-known l = fold kept (held l.self) (map system_known (drop l.known-index l.all)) ≡ fold kept (held l.fn.self) (map system_known l.all)
