use Rattle.std.proofs.Common.{◌≡◌, true, take, map}
use Rattle.exo_tree.specs.PlainControl.{control}
use Rattle.tree_uses.specs.Uses.{used_controls, controls_fit}
use Rattle.tree_uses.proofs.lists.used_controls.Given as goal

abbrev pub invariant-loop-item : goal.invariant-loop-item
invariant-loop-item g l =
    (l.made ≡ used_controls (g.U.Uses.uses l.uses) (map control (take l.item-index l.item-items)))
    × (controls_fit (g.U.Uses.uses l.uses) (map control (take l.item-index l.item-items)) ≡ true)
