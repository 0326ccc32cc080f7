use Rattle.std.proofs.Common.{◌≡◌, All}
use Rattle.std.specs.Prelude.{fold, reverse}
use Rattle.ob_check.specs.Entries.{put_back}
use Rattle.ob_check.specs.Held.{held}
use Rattle.ob_check.proofs.Holding.{as_held}
use Rattle.ob_check.proofs.Truths.{IsTrueEntry, IsSmallEntry}
use Rattle.ob_check.proofs.cache.Cache.put_all.Given as goal

abbrev pub invariant-loop-system : goal.invariant-loop-system
invariant-loop-system l = record {
  are_true : All IsTrueEntry l.system-iterator;
  are_small : All IsSmallEntry l.system-iterator;
  put : fold put_back (held l.self) (as_held l.system-iterator) ≡ fold put_back (held l.fn.self) (reverse (held l.fn.other));
}
