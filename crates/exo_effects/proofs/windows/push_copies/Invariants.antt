use Rattle.std.proofs.Common.{◌≡◌, ◌++◌, map, drop}
use Rattle.exo_tree.specs.PlainControl.{coordinate}
use Rattle.exo_effects.proofs.windows.push_copies.Given as goal

abbrev pub invariant-loop-c : goal.invariant-loop-c
invariant-loop-c l = l.made ++ map coordinate (drop l.c-index l.more) ≡ l.initial.made ++ map coordinate l.more
