use Rattle.std.proofs.Common.{◌≡◌, ◌≤◌, take, length}
use Rattle.field_rewrites.specs.Binding.{with_field}
use Rattle.field_rewrites.proofs.arguments.with_field.Given as goal

abbrev pub invariant-loop-k : goal.invariant-loop-k
invariant-loop-k l = record {
  made : l.made ≡ take l.k (with_field l.f.0 l.index l.args);
  inside : l.k ≤ length l.args;
}
