use Rattle.std.proofs.Common.{◌≡◌, ◌++◌, map, drop}
use Rattle.exo_tree.specs.PlainControl.{coordinate}
use Rattle.inplace_laws.specs.Windows.{joined_coords}
use Rattle.exo_effects.proofs.windows.put_joined.Given as goal

abbrev pub invariant-loop-c : goal.invariant-loop-c
invariant-loop-c l =
    l.made ++ joined_coords (map coordinate (drop l.c-index l.name)) (map coordinate l.rest)
    ≡ l.initial.made ++ joined_coords (map coordinate l.name) (map coordinate l.window)
