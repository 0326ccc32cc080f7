-- The names so far, and those of the rest.
use Rattle.std.proofs.Common.{◌≡◌, ◌++◌, drop}
use Rattle.exo_tree.specs.Tree.{block}
use Rattle.tree_edits.specs.Made.Names.{top_names}
use Rattle.tree_edits.proofs.made.name.top_names.Given as goal

abbrev pub invariant-loop-k : goal.invariant-loop-k
invariant-loop-k l = l.names.items ++ top_names l.copies (block (drop l.k l.b)) ≡ top_names l.copies (block l.b)
