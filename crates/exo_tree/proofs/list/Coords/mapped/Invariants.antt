use Rattle.std.proofs.Common.{◌≡◌, take, map}
use Rattle.exo_tree.specs.PlainControl.{coordinate}
use Rattle.exo_tree.specs.Mapped.{mapped_coord}
use Rattle.exo_tree.proofs.list.Coords.mapped.Given as goal

abbrev pub invariant-loop-item : goal.invariant-loop-item
invariant-loop-item g l = l.made ≡ map (mapped_coord (g.L.Leaves.leaves l.leaves)) (map coordinate (take l.item-index l.item-items))
