-- What is left decides.
use Rattle.std.proofs.Common.{◌≡◌, drop}
use Rattle.exo_meaning.specs.Units.{are_distinct}
use Rattle.tree_edits.proofs.made.ids.are_distinct.Given as goal

abbrev pub invariant-loop-k : goal.invariant-loop-k
invariant-loop-k l = are_distinct (drop l.k l.ids) ≡ are_distinct l.ids
