-- What is left decides.
use Rattle.std.proofs.Common.{◌≡◌, drop, map}
use Rattle.exo_tree.specs.PlainControl.{condition}
use Rattle.c_widths.specs.Widths.{are_narrow_tests}
use Rattle.c_widths.specs.Bounds.{most_in}
use Rattle.c_widths.proofs.expressions.are_narrow_tests.Given as goal

abbrev pub invariant-loop-c : goal.invariant-loop-c
invariant-loop-c l = are_narrow_tests (most_in l.bounds) (map condition (drop l.c-index l.c-items)) ≡ are_narrow_tests (most_in l.bounds) l.cs
