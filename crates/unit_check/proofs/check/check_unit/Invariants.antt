use Rattle.std.proofs.Common.{◌≡◌, ◌≤◌, ◌*◌, drop, take, map, All}
use Rattle.exo_tree.specs.PlainUnit.{program}
use Rattle.affine_forms.specs.Affine.{HasNoIntegerPoint}
use Rattle.ob_check.specs.Held.{held}
use Rattle.bounds_check.specs.Obligations.{obligations_of}
use Rattle.unit_check.specs.Cached.{discharged_all}
use Rattle.unit_check.specs.Checked.{checked, checked_from}
use Rattle.unit_check.proofs.check.check_unit.Given as goal

abbrev pub invariant-loop-k : goal.invariant-loop-k
invariant-loop-k g l = record {
  so_far : checked (program l.unit) ≡ checked_from (program l.unit) l.k l.count (drop l.k (program l.unit).procedures);
  few : l.count ≤ 65536 * l.k;
  shown : All (λ p. All (λ o. HasNoIntegerPoint o.system) (obligations_of (program l.unit) p)) (take l.k (program l.unit).procedures);
  cached : held l.cache ≡ discharged_all (held l.fn.cache) (map (obligations_of (program l.unit)) (take l.k (program l.unit).procedures));
}
