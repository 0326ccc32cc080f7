-- The depth of the recursion, and what is known when the first statements of a block were searched.
use Rattle.std.proofs.Common.{◌+◌, ◌*◌}
use Rattle.exo_tree.specs.Nodes.{nodes, nodes_of}
use Rattle.exo_tree.specs.Plain.{program, statement}
use Rattle.exo_tree.specs.PlainPlace.{branch_taken}
use Rattle.cursor_forward.specs.Search.PlainPattern.{plain_pattern}
use Rattle.cursor_forward.proofs.Searching.{IsWalked}
use Rattle.cursor_forward.proofs.finding.+find.Given as goal

abbrev pub decreases-find_in : goal.decreases-find_in
decreases-find_in l = 3 * nodes_of l.b.now + 2

abbrev pub decreases-find_at : goal.decreases-find_at
decreases-find_at l = 3 * nodes (statement l.s.now) + 1

abbrev pub decreases-find_below : goal.decreases-find_below
decreases-find_below l = 3 * nodes (statement l.s.now)

abbrev pub invariant-find_in-loop-k : goal.invariant-find_in-loop-k
invariant-find_in-loop-k l = IsWalked (program l.unit) (plain_pattern l.pattern) l.outer (branch_taken l.branch) l.fn.first l.b l.initial.left l.k l.found l.left
