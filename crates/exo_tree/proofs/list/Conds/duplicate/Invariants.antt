use Rattle.std.proofs.Common.{◌≡◌, take, map}
use Rattle.exo_tree.specs.PlainControl.{condition}
use Rattle.exo_tree.proofs.list.Conds.duplicate.Given as goal

abbrev pub invariant-loop-item : goal.invariant-loop-item
invariant-loop-item l = l.copied ≡ map condition (take l.item-index l.item-items)
