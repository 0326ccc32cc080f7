-- The size comes first, then the dimensions so far.
use Rattle.std.proofs.Common.{◌≡◌, ◌∷◌, take, map}
use Rattle.exo_tree.specs.PlainControl.{control}
use Rattle.buffer_rewrites.proofs.expandable.with_dimension.Given as goal

abbrev pub invariant-loop-item : goal.invariant-loop-item
invariant-loop-item l = l.made ≡ control l.size ∷ map control (take l.item-index l.item-items)
