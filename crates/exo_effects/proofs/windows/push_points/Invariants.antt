use Rattle.std.proofs.Common.{◌≡◌, ◌++◌, map, drop}
use Rattle.exo_tree.specs.Tree.{At}
use Rattle.exo_tree.specs.PlainControl.{control}
use Rattle.exo_effects.proofs.windows.push_points.Given as goal

abbrev pub invariant-loop-e : goal.invariant-loop-e
invariant-loop-e l = l.made ++ map At (map control (drop l.e-index l.more)) ≡ l.initial.made ++ map At (map control l.more)
