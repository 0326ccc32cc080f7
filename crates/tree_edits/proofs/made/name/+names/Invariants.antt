-- The names so far, and those of the rest.
use Rattle.std.proofs.Common.{◌≡◌, ◌++◌, drop}
use Rattle.exo_tree.specs.Tree.{block}
use Rattle.tree_edits.specs.Made.Names.{binder_names}
use Rattle.tree_edits.proofs.made.name.+names.Given as goal

abbrev pub invariant-put_block-loop-k : goal.invariant-put_block-loop-k
invariant-put_block-loop-k l = l.names.items ++ binder_names (block (drop l.k l.b)) ≡ l.initial.names.items ++ binder_names (block l.b)
