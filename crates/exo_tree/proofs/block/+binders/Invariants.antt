use Rattle.std.proofs.Common.{◌≡◌, ◌++◌, drop}
use Rattle.exo_tree.specs.Tree.{block}
use Rattle.exo_tree.specs.Renaming.{binders}
use Rattle.exo_tree.proofs.block.+binders.Given as goal

abbrev pub decreases-Block::binders : goal.decreases-Block::binders
decreases-Block::binders l = goal.size-Block::binders l

abbrev pub decreases-Stmt::binders : goal.decreases-Stmt::binders
decreases-Stmt::binders l = goal.size-Stmt::binders l

abbrev pub invariant-Block::binders-loop-k : goal.invariant-Block::binders-loop-k
invariant-Block::binders-loop-k l = l.ids ++ binders (block (drop l.k l.self)) ≡ l.initial.ids ++ binders (block l.self)
