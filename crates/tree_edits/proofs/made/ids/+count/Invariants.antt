-- The binders of the statements so far.
use Rattle.std.proofs.Common.{◌≡◌, take, length}
use Rattle.exo_tree.specs.Tree.{block}
use Rattle.exo_tree.specs.Renaming.{binders}
use Rattle.exo_tree.specs.Nodes.{capped}
use Rattle.tree_edits.proofs.made.ids.+count.Given as goal

abbrev pub invariant-count_first-loop-k : goal.invariant-count_first-loop-k
invariant-count_first-loop-k l = l.all ≡ capped (length (binders (block (take l.k l.b))))
