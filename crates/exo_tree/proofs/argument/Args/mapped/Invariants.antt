use Rattle.std.proofs.Common.{◌≡◌, take, map}
use Rattle.exo_tree.specs.PlainArgument.{argument}
use Rattle.exo_tree.specs.Mapped.{mapped_argument}
use Rattle.exo_tree.proofs.argument.Args.mapped.Given as goal

abbrev pub invariant-loop-item : goal.invariant-loop-item
invariant-loop-item g l = l.made ≡ map (mapped_argument (g.L.Leaves.leaves l.leaves)) (map argument (take l.item-index l.item-items))
