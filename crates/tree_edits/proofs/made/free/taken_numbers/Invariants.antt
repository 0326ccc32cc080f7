-- The numbers so far, and those of the rest.
use Rattle.std.proofs.Common.{drop}
use Rattle.tree_edits.specs.Made.Names.{numbered}
use Rattle.tree_edits.proofs.OfMade.Numbers.{NotedSoFar}
use Rattle.tree_edits.proofs.made.free.taken_numbers.Given as goal

abbrev pub invariant-loop-name : goal.invariant-loop-name
invariant-loop-name l = NotedSoFar (numbered l.x) l.taken (drop l.name-index l.taken) l.marks.items
