-- The names so far, and those of the rest.
use Rattle.std.proofs.Common.{◌≡◌, ◌++◌, drop, map}
use Rattle.exo_tree.specs.PlainParam.{parameter}
use Rattle.tree_edits.specs.Made.Names.{names_of}
use Rattle.tree_edits.proofs.made.name.put_params.Given as goal

abbrev pub invariant-loop-p : goal.invariant-loop-p
invariant-loop-p l = l.names.items ++ names_of (map parameter (drop l.p-index l.params)) ≡ l.initial.names.items ++ names_of (map parameter l.params)
