-- The number among those that are left, and how many were passed.
use Rattle.std.proofs.Common.{◌≡◌, ◌≤◌, drop, map, length}
use Rattle.exo_tree.specs.PlainParam.{parameter}
use Rattle.field_rewrites.specs.Binding.{named_in}
use Rattle.field_rewrites.proofs.Named.{further}
use Rattle.field_rewrites.proofs.bound.named_in.Given as goal

abbrev pub invariant-loop-k : goal.invariant-loop-k
invariant-loop-k l = record {
  found : named_in l.name l.params ≡ further l.k (named_in l.name (map parameter (drop l.k l.p-items)));
  inside : l.k ≤ length l.p-items;
}
