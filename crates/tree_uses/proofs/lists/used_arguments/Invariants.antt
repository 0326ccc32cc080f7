use Rattle.std.proofs.Common.{◌≡◌, true, take, map}
use Rattle.exo_tree.specs.PlainArgument.{argument}
use Rattle.tree_uses.specs.Uses.{used_arguments, arguments_fit}
use Rattle.tree_uses.proofs.lists.used_arguments.Given as goal

abbrev pub invariant-loop-item : goal.invariant-loop-item
invariant-loop-item g l =
    (l.made ≡ used_arguments (g.U.Uses.uses l.uses) (map argument (take l.item-index l.item-items)))
    × (arguments_fit (g.U.Uses.uses l.uses) (map argument (take l.item-index l.item-items)) ≡ true)
