use Rattle.std.proofs.Common.{◌≡◌, drop}
use Rattle.exo_tree.specs.Tree.{block}
use Rattle.affine_places.specs.Roots.{block_has_extents}
use Rattle.affine_places.proofs.affine_extents.+extents.Given as goal

abbrev pub invariant-block_has_extents-loop-k : goal.invariant-block_has_extents-loop-k
invariant-block_has_extents-loop-k l = block_has_extents (block l.b) ≡ block_has_extents (block (drop l.k l.b))
