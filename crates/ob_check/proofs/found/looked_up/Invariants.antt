use Rattle.std.proofs.Common.{◌≡◌, ◌++◌, map, drop}
use Rattle.std.specs.Prelude.{fold, filter}
use Rattle.affine_forms.specs.Affine.{Constraints}
use Rattle.ob_check.specs.Entries.{asked, is_missing}
use Rattle.ob_check.specs.Held.{held}
use Rattle.ob_check.specs.Systems.{systems_of, system_found, missing_of}
use Rattle.ob_check.proofs.found.looked_up.Given as goal

abbrev pub invariant-loop-o : goal.invariant-loop-o
invariant-loop-o l = record {
  systems : map system_found l.all.items ++ systems_of (drop l.o-index l.obs) ≡ systems_of l.obs;
  missing : missing_of l.all.items ++ filter (is_missing (held l.fn.cache)) (systems_of (drop l.o-index l.obs)) ≡ filter (is_missing (held l.fn.cache)) (systems_of l.obs);
  unknown : (s : Constraints) → is_missing (held l.cache) s ≡ is_missing (held l.fn.cache) s;
  asked_for : fold asked (held l.cache) (systems_of (drop l.o-index l.obs)) ≡ fold asked (held l.fn.cache) (systems_of l.obs);
}
