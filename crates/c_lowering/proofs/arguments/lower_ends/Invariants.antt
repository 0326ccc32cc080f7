-- What is made, and the lower ends of what is left, are all lower ends.
use Rattle.std.proofs.Common.{◌≡◌, ◌++◌, map, drop}
use Rattle.exo_tree.specs.PlainControl.{coordinate}
use Rattle.c_lowering.specs.Made.Lowered.{lower_end}
use Rattle.c_lowering.proofs.arguments.lower_ends.Given as goal

abbrev pub invariant-loop-c : goal.invariant-loop-c
invariant-loop-c l = l.ends ++ map lower_end (map coordinate (drop l.c-index l.coords)) ≡ map lower_end (map coordinate l.coords)
