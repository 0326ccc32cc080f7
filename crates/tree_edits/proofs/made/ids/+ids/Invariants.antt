-- The ids so far, and those of the rest.
use Rattle.std.proofs.Common.{◌≡◌, ◌++◌, drop}
use Rattle.exo_tree.specs.Tree.{block}
use Rattle.exo_tree.specs.Renaming.{binders}
use Rattle.tree_edits.proofs.made.ids.+ids.Given as goal

abbrev pub invariant-put_block-loop-k : goal.invariant-put_block-loop-k
invariant-put_block-loop-k l = l.ids.items ++ binders (block (drop l.k l.b)) ≡ l.initial.ids.items ++ binders (block l.b)
