use Rattle.std.proofs.Common.{◌≤◌, ◌+◌, ◌*◌, drop}
use Rattle.exo_tree.specs.Tree.{block}
use Rattle.exo_tree.specs.Heights.{height}
use Rattle.tree_edits.proofs.replace.+fits.Given as goal

abbrev pub decreases-fits : goal.decreases-fits
decreases-fits l = 2 * l.room + 1

abbrev pub decreases-statement_fits : goal.decreases-statement_fits
decreases-statement_fits l = 2 * l.room

abbrev pub invariant-fits-loop-k : goal.invariant-fits-loop-k
invariant-fits-loop-k l = height (block (drop l.k l.b)) ≤ l.room → height (block l.b) ≤ l.room
