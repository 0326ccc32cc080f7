use Rattle.std.proofs.Common.{◌≡◌, true, flat_map, All, IsOk}
use Rattle.affine_systems.specs.Limits.{are_within}
use Rattle.bounds_check.specs.Chunks.{listed_in}
use Rattle.bounds_check.proofs.list.joined.Given as goal

abbrev pub invariant-loop-list : goal.invariant-loop-list
invariant-loop-list l = record {
  so_far : l.all ≡ flat_map listed_in l.yielded;
  within : are_within l.all ≡ true;
  fine : All IsOk l.yielded;
}
