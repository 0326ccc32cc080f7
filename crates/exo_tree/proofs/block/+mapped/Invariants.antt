use Rattle.std.proofs.Common.{◌≡◌, drop}
use Rattle.exo_tree.specs.Tree.{block, joined}
use Rattle.exo_tree.specs.Mapped.{mapped_block}
use Rattle.exo_tree.proofs.block.+mapped.Given as goal

abbrev pub decreases-Block::mapped : goal.decreases-Block::mapped
decreases-Block::mapped g l = goal.size-Block::mapped g l

abbrev pub decreases-Stmt::mapped : goal.decreases-Stmt::mapped
decreases-Stmt::mapped g l = goal.size-Stmt::mapped g l

abbrev pub invariant-Block::mapped-loop-k : goal.invariant-Block::mapped-loop-k
invariant-Block::mapped-loop-k g l = joined (block l.made) (mapped_block (g.L.Leaves.leaves l.leaves) (block (drop l.k l.self))) ≡ mapped_block (g.L.Leaves.leaves l.leaves) (block l.self)
