use Rattle.std.proofs.Common.{◌≡◌, take, map}
use Rattle.exo_tree.specs.PlainControl.{control}
use Rattle.exo_tree.specs.Mapped.{mapped_control}
use Rattle.exo_tree.proofs.list.Indices.mapped.Given as goal

abbrev pub invariant-loop-item : goal.invariant-loop-item
invariant-loop-item g l = l.made ≡ map (mapped_control (g.L.Leaves.leaves l.leaves)) (map control (take l.item-index l.item-items))
