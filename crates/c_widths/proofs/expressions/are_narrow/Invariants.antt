-- What is left decides.
use Rattle.std.proofs.Common.{◌≡◌, drop, map}
use Rattle.exo_tree.specs.PlainControl.{control}
use Rattle.c_widths.specs.Widths.{are_narrow}
use Rattle.c_widths.specs.Bounds.{most_in}
use Rattle.c_widths.proofs.expressions.are_narrow.Given as goal

abbrev pub invariant-loop-e : goal.invariant-loop-e
invariant-loop-e l = are_narrow (most_in l.bounds) (map control (drop l.e-index l.e-items)) ≡ are_narrow (most_in l.bounds) l.es
