-- The roots that the rest of a block gives.
use Rattle.std.proofs.Common.{◌≡◌, true, drop}
use Rattle.exo_tree.specs.Tree.{block}
use Rattle.affine_places.specs.Roots.{with_block, block_has_extents}
use Rattle.affine_places.specs.Seen.{roots_in}
use Rattle.affine_places.proofs.roots.Roots.+insert.Given as goal

abbrev pub invariant-insert_block-loop-k : goal.invariant-insert_block-loop-k
invariant-insert_block-loop-k l = (with_block (block (drop l.k l.b)) (roots_in l.self) ≡ with_block (block l.b) (roots_in l.initial.self)) × (block_has_extents (block (drop l.k l.b)) ≡ true)
