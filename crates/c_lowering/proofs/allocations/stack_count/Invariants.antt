-- The count of what is left from here on.
use Rattle.std.proofs.Common.{◌≡◌, ◌≤ℤ◌, pos, drop, map}
use Rattle.exo_tree.specs.PlainControl.{control}
use Rattle.c_lowering.specs.Made.Lowered.{stack_count, stack_count_from}
use Rattle.c_lowering.proofs.allocations.stack_count.Given as goal

abbrev pub invariant-loop-d : goal.invariant-loop-d
invariant-loop-d l = record {
  natural : pos 0 ≤ℤ l.count;
  whole : stack_count_from l.count (map control (drop l.d-index l.dims)) ≡ stack_count (map control l.dims);
}
