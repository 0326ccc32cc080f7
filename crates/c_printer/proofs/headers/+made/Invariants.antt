-- The depth of the recursion, and what is left of a block.
use Rattle.std.proofs.Common.{◌≡◌, ◌+◌, ◌*◌, drop}
use Rattle.exo_tree.specs.Tree.{block}
use Rattle.exo_tree.specs.Nodes.{nodes, nodes_of}
use Rattle.exo_tree.specs.PlainStatement.{statement}
use Rattle.c_lowering.specs.Made.LoweredUnit.{stands_in}
use Rattle.c_printer.proofs.headers.+made.Given as goal

abbrev pub decreases-stands_in : goal.decreases-stands_in
decreases-stands_in l = 2 * nodes_of l.b.now + 1

abbrev pub decreases-is_made_in : goal.decreases-is_made_in
decreases-is_made_in l = 2 * nodes (statement l.s.now)

abbrev pub invariant-stands_in-loop-k : goal.invariant-stands_in-loop-k
invariant-stands_in-loop-k l = stands_in l.m (block (drop l.k l.b)) ≡ stands_in l.m (block l.b)
