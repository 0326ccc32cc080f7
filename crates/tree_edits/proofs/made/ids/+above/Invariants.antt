-- What is above the statements so far, and above the rest.
use Rattle.std.proofs.Common.{◌≡◌, max, drop}
use Rattle.exo_tree.specs.Tree.{block}
use Rattle.exo_tree.specs.Renaming.{binders}
use Rattle.tree_edits.specs.Made.Ids.{above_all}
use Rattle.tree_edits.proofs.made.ids.+above.Given as goal

abbrev pub invariant-above_block-loop-k : goal.invariant-above_block-loop-k
invariant-above_block-loop-k l = max l.all (above_all (binders (block (drop l.k l.b)))) ≡ above_all (binders (block l.b))
