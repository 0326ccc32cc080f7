-- What is left decides.
use Rattle.std.proofs.Common.{◌≡◌, ◌≤◌, ◌+◌, drop, length}
use Rattle.tree_edits.specs.Made.Numbers.{set_before}
use Rattle.tree_edits.proofs.made.free.set_before.Given as goal

abbrev pub invariant-loop-k : goal.invariant-loop-k
invariant-loop-k l = record {
  count : l.k + set_before (drop l.k l.marks) ≡ set_before l.marks;
  inside : l.k ≤ length l.marks;
}
